-- Lemmas on the documents that a list and all others have.
use Rattle.std.proofs.Common.{◌≡◌, sym, inl, inr, ◌∙◌, ℕ, ◌<◌, ◌≤◌, true, false, List, [], ◌∷◌, Some, None, arith}
use Rattle.std.specs.List.{filter, range_with_len}
use Rattle.std.proofs.lemmas.Bool.{cases_lt, false_from_ne_true, false≢true}
use Rattle.std.proofs.lemmas.List.Elements.{All-cons, All-tail}
use Rattle.std.proofs.lemmas.List.Folds.{list_all_at}
use Rattle.std.proofs.lemmas.List.Sums.{AllPass-from_list_all, list_all-from_AllPass}
use Rattle.collection_model.specs.Collection.{Posting}
use Rattle.cursor_api.specs.NextGeq.{IsCursorAt}
use Rattle.scan_plans.specs.Matches.{has_doc}
use Rattle.scan_plans.specs.Scan.{doc_at, StandsFrom, in_each}
use Rattle.scan_plans.proofs.Scans.{filter-skip}
use Rattle.scan_plans.proofs.Steps.{nothing-between, nothing-left, next-is-later, has-next}

module _ (first : List Posting) (others : List (List Posting)) (d : ℕ) where
  pub not-first : has_doc d first ≡ false → in_each d (first ∷ others) ≡ false
  not-first none = list_all_at (has_doc d) (first ∷ others) 0 [] (omega arith) none

  pub not-others : in_each d others ≡ false → in_each d (first ∷ others) ≡ false
  not-others none = false_from_ne_true (in_each d (first ∷ others)) (λ is. false≢true (sym none ∙ list_all-from_AllPass (has_doc d) others (All-tail (λ l. has_doc d l ≡ true) first others (AllPass-from_list_all (has_doc d) (first ∷ others) is))))

  pub in-both : has_doc d first ≡ true → in_each d others ≡ true → in_each d (first ∷ others) ≡ true
  in-both here there = list_all-from_AllPass (has_doc d) (first ∷ others) (All-cons (λ l. has_doc d l ≡ true) first others here (AllPass-from_list_all (has_doc d) others there))

-- what is known where the shortest list stands at a document
pub record IsTurn (first : List Posting) (others : List (List Posting)) (low doc : ℕ) : Type 0 where
  pub later : low ≤ doc
  pub none : (d : ℕ) → low ≤ d → d < doc → in_each d (first ∷ others) ≡ false
  pub has : has_doc doc first ≡ true

pub turn : (first : List Posting) (others : List (List Posting)) (low doc place : ℕ) → IsCursorAt first place → StandsFrom low first place → doc_at first place ≡ Some doc → IsTurn first others low doc
turn first others low doc place good stand is = record {
  later = next-is-later first low place doc stand is;
  none = λ d from before. not-first first others d (nothing-between first low place doc d good stand is from before);
  has = has-next first place doc is;
}

-- documents up to a later one that the others have not
pub skip-to : (first : List Posting) (others : List (List Posting)) (docs : List ℕ) (low doc next : ℕ) → low ≤ doc → doc ≤ next → ((d : ℕ) → low ≤ d → d < doc → in_each d (first ∷ others) ≡ false) → ((d : ℕ) → doc ≤ d → d < next → in_each d others ≡ false)
    → docs ≡ filter (λ d. in_each d (first ∷ others)) (range_with_len 0 low) → docs ≡ filter (λ d. in_each d (first ∷ others)) (range_with_len 0 next)
skip-to first others docs low doc next le far none ends is =
    is ∙ sym (filter-skip (λ d. in_each d (first ∷ others)) low next (omega arith) (λ d from before. elim (cases_lt d doc) as (λ _. in_each d (first ∷ others) ≡ false) [ inl early ↦ none d from early | inr late ↦ not-others first others d (ends d late before) ]))

-- none is left where the others have none from a document on
pub none-later : (first : List Posting) (others : List (List Posting)) (low doc : ℕ) → ((d : ℕ) → low ≤ d → d < doc → in_each d (first ∷ others) ≡ false) → ((d : ℕ) → doc ≤ d → in_each d others ≡ false) → (d : ℕ) → low ≤ d → in_each d (first ∷ others) ≡ false
none-later first others low doc none ends d from = elim (cases_lt d doc) as (λ _. in_each d (first ∷ others) ≡ false) [ inl early ↦ none d from early | inr late ↦ not-others first others d (ends d late) ]

-- nor where the list is at its end
pub none-left : (first : List Posting) (others : List (List Posting)) (low place : ℕ) → StandsFrom low first place → doc_at first place ≡ None → (d : ℕ) → low ≤ d → in_each d (first ∷ others) ≡ false
none-left first others low place stand is d from = not-first first others d (nothing-left first low place d stand is from)
