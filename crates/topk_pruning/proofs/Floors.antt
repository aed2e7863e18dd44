-- Lemmas on a score that many documents reach.
use Rattle.std.proofs.Common.{◌≡◌, refl, sym, ap, inl, inr, ◌⊎◌, ◌∙◌, subst, ℕ, ◌*◌, ◌<◌, ◌≤◌, ◌≢◌, leb, List, [], ◌∷◌, length, get_or, Some, arith}
use Rattle.std.specs.List.{count_by, range_with_len, slice_get}
use Rattle.std.proofs.lemmas.Bool.{cases_eq}
use Rattle.std.proofs.lemmas.List.Elements.{All-map}
use Rattle.std.proofs.lemmas.List.FromFn.{length-range_with_len, get_or-range_with_len}
use Rattle.std.proofs.lemmas.Option.{get_or_from_slice_get}
use Rattle.collection_model.specs.Collection.{Posting, freqs_of}
use Rattle.cursor_api.specs.NextGeq.{IsCursorList}
use Rattle.scan_plans.specs.Matches.{AreBelow, in_any_from}
use Rattle.scan_plans.specs.IsTop.{ScoresOfFrequent}
use Rattle.topk_pruning.specs.declared.term.Term.{Term}
use Rattle.topk_pruning.specs.Terms.{list_of, term_of, terms_of, AreAllTerms}
use Rattle.topk_pruning.proofs.Alike.{key, alike-all}

-- the list of a term is one of the lists, and its weight is that of the list
weight-of : (lists : List (List Posting)) (weights : List ℕ) (terms : List Term) (i : ℕ) (t : Term) → AreAllTerms lists weights terms → i < length terms → ((get_or terms i t).list < length lists) × ((get_or terms i t).weight ≡ get_or weights (get_or terms i t).list 0)
weight-of lists weights terms i t all within =
    let n : ℕ = length lists in
    let Own : ℕ × ℕ → Type 0 = λ e. (e.0 < n) × (e.1 ≡ get_or weights e.0 0) in
    alike-all Own (terms_of lists weights) terms all.all
    (All-map (λ (t : Term). Own (key t)) (term_of lists weights) (range_with_len 0 n) (λ k d inside. (let l = length-range_with_len 0 n in let e = get_or-range_with_len 0 n k d (omega arith) in omega arith, refl))) i t within

-- the first of some terms
pub first-there : (terms : List Term) (t : Term) → slice_get terms 0 ≡ Some t → (0 < length terms) × (get_or terms 0 t ≡ t)
first-there [] t is = cc
first-there (u ∷ terms) t is = (omega arith, get_or_from_slice_get (u ∷ terms) 0 t t is)

-- what a frequency that k postings of the first term's list reach adds to a score, k documents reach
pub floor-reached : ScoresOfFrequent → (n k f w : ℕ) (list : List Posting) (lists : List (List Posting)) (weights : List ℕ) (terms : List Term) (t : Term) → AreBelow n lists → AreAllTerms lists weights terms → slice_get terms 0 ≡ Some t → w ≡ t.weight → list ≡ list_of lists t → IsCursorList list
    → (f ≢ 0 → k ≤ count_by (λ g. leb f g) (freqs_of list)) → (w * f ≡ 0) ⊎ (k ≤ length (in_any_from (w * f) n lists weights))
floor-reached law n k f w list lists weights terms t below all first weight same good many = elim (cases_eq f 0) as (λ _. (w * f ≡ 0) ⊎ (k ≤ length (in_any_from (w * f) n lists weights))) [
  | inl none ↦ inl (let zero : w * 0 ≡ 0 = omega arith in ap (λ (f : ℕ). w * f) none ∙ zero)
  | inr some ↦ (let there = first-there terms t first in
      let own : (t.list < length lists) × (t.weight ≡ get_or weights t.list 0) = subst (λ (t : Term). (t.list < length lists) × (t.weight ≡ get_or weights t.list 0)) there.1 (weight-of lists weights terms 0 t all there.0) in
      let reach = law n t.list f lists weights below (subst IsCursorList same good) all.each own.0 in
      let so_many = many some in
      let counts = ap (λ (l : List Posting). count_by (λ g. leb f g) (freqs_of l)) same in
      inr (subst (λ (w : ℕ). k ≤ length (in_any_from (w * f) n lists weights)) (sym (weight ∙ own.1)) (omega arith)))
]
