-- Lemmas on documents of all lists that are told by whole words of marks.
use Rattle.std.proofs.Common.{◌≡◌, sym, ap, inl, inr, ◌∙◌, ℕ, ◌+◌, ◌*◌, ◌/◌, ◌%◌, ◌<◌, min, Bool, true, ◌&&◌, eqb, List, ◌∷◌, take, arith}
use Rattle.std.specs.Int.{bit_at}
use Rattle.std.proofs.lemmas.Bool.{cases_lt, false≢true, and_parts}
use Rattle.std.proofs.lemmas.List.{get_or-take, length-map}
use Rattle.collection_model.specs.Collection.{Posting}
use Rattle.cursor_api.specs.NextGeq.{IsCursorList}
use Rattle.scan_plans.specs.Matches.{has_doc}
use Rattle.scan_plans.specs.Scan.{StandsFrom, in_each}
use Rattle.scan_plans.specs.Window.{is_marked}
use Rattle.scan_plans.proofs.Postings.{has_doc-none}

-- a document of a cursor's list is below the greatest number
pub doc-below : (list : List Posting) → IsCursorList list → (d : ℕ) → has_doc d list ≡ true → d < 4294967295
doc-below list good d has = elim (cases_lt d 4294967295) as (λ _. d < 4294967295) [
  | inl lt ↦ lt
  | inr from ↦ absurd (false≢true (sym (has_doc-none list d (λ k within. inl (let low = good.docs k 0 (omega (arith, length-map list (λ p. p.doc))) in omega arith))) ∙ has))
]

-- a mark of the first words
pub marked-prefix : (words : ℕ) (marks : List ℕ) (k : ℕ) → k < 64 * words → is_marked (take words marks) k ≡ is_marked marks k
marked-prefix words marks k lt = ap (λ (w : ℕ). eqb (bit_at w (k % 64)) 1) (get_or-take words marks (k / 64) 0 (omega arith))

-- what is marked after each list has taken back its own
pub told-in_all : (words : ℕ) (marks told old : List ℕ) (first : ℕ) (list : List Posting) (others : List (List Posting)) (k : ℕ) → k < 64 * words → is_marked old k ≡ true
    → is_marked told k ≡ (is_marked old k && has_doc (first + k) list) → is_marked marks k ≡ (is_marked told k && in_each (first + k) others) → is_marked (take words marks) k ≡ in_each (first + k) (list ∷ others)
told-in_all words marks told old first list others k lt all here there =
    marked-prefix words marks k lt ∙ there ∙ ap (λ (b : Bool). b && in_each (first + k) others) (here ∙ ap (λ (b : Bool). b && has_doc (first + k) list) all)

-- a document of all lists is below the greatest number
pub shared-below : (list : List Posting) (others : List (List Posting)) → IsCursorList list → (d : ℕ) → in_each d (list ∷ others) ≡ true → d < 4294967295
shared-below list others good d is = doc-below list good d (and_parts (has_doc d list) (in_each d others) is).0

-- a place from a capped document on is one from the document itself
pub stands-capped : (list : List Posting) (d capped place : ℕ) → IsCursorList list → capped ≡ min d 4294967295 → StandsFrom capped list place → StandsFrom d list place
stands-capped list d capped place good is stand = record {
  passed = λ k lt. let low = stand.passed k lt in omega arith;
  left = λ k from within.
      let high = stand.left k from within in
      let low = good.docs k 0 (omega (arith, length-map list (λ p. p.doc))) in
      omega arith;
}
