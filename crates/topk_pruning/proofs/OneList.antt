-- Lemmas on one list that alone is essential.
use Rattle.std.proofs.Common.{◌≡◌, subst, ℕ, ◌+◌, ◌≤◌, true, List, [], ◌∷◌, take, drop, set, length, get_or, Option, Some, None, arith}
use Rattle.std.specs.List.{All}
use Rattle.std.specs.Option.{IfSome}
use Rattle.std.proofs.lemmas.Bool.{true_from_ne_false}
use Rattle.std.proofs.lemmas.List.Elements.{All-drop, All-set}
use Rattle.std.proofs.lemmas.List.Folds.{list_any_at}
use Rattle.std.proofs.lemmas.List.Sums.{sum_by-cons}
use Rattle.collection_model.specs.Collection.{Posting}
use Rattle.scan_plans.specs.Matches.{has_doc, freq_of_doc}
use Rattle.scan_plans.specs.Scan.{HasPassed}
use Rattle.topk_pruning.specs.declared.term.Term.{Term}
use Rattle.topk_pruning.specs.Terms.{list_of, share, score_in, in_lists, bounds, AreTerms}
use Rattle.topk_pruning.proofs.Moves.{later-passed}
use Rattle.topk_pruning.proofs.Scores.{bounded-at, freq-absent, shares-within}
use Rattle.topk_pruning.proofs.Windows.{no_term}

head-score : (lists : List (List Posting)) (d : ℕ) (terms : List Term) → 1 ≤ length terms → score_in lists d terms ≡ share lists d (get_or terms 0 no_term) + score_in lists d (drop 1 terms)
head-score lists d [] some = absurd (omega arith)
head-score lists d (t ∷ terms) some = sum_by-cons (share lists d) t terms

-- a score is within what the first list gives and the bounds of the others
pub alone-within : (lists : List (List Posting)) (d : ℕ) (terms : List Term) → 1 ≤ length terms → AreTerms lists terms → score_in lists d terms ≤ share lists d (get_or terms 0 no_term) + bounds (drop 1 terms)
alone-within lists d terms some are =
    let head = head-score lists d terms some in
    let rest = shares-within lists d (drop 1 terms) (All-drop (λ (t : Term). share lists d t ≤ t.bound) 1 terms (bounded-at lists terms d are)) in
    omega arith

head-has : (lists : List (List Posting)) (doc : ℕ) (terms : List Term) → 1 ≤ length terms → has_doc doc (list_of lists (get_or terms 0 no_term)) ≡ true → in_lists lists doc (take 1 terms) ≡ true
head-has lists doc [] some has = absurd (omega arith)
head-has lists doc (t ∷ terms) some has = list_any_at (λ t. has_doc doc (list_of lists t)) (t ∷ []) 0 no_term (omega arith) has

-- a document with a frequency in the first list is there
pub alone-found : (lists : List (List Posting)) (terms : List Term) (from freq : ℕ) (l : List Posting) (o : Option ℕ) → 1 ≤ length terms → 1 ≤ freq → l ≡ list_of lists (get_or terms 0 no_term) → IfSome o (λ doc. (from ≤ doc) × (freq ≤ freq_of_doc doc l)) → IfSome o (λ doc. (from ≤ doc) × (in_lists lists doc (take 1 terms) ≡ true))
alone-found lists terms from freq l None some positive same found = tt
alone-found lists terms from freq l (Some doc) some positive same found =
    let high = found.1 in
    let has : has_doc doc l ≡ true = true_from_ne_false (has_doc doc l) (λ none. let zero = freq-absent doc l none in absurd (omega arith)) in
    (found.0, head-has lists doc terms some (subst (λ (l : List Posting). has_doc doc l ≡ true) same has))

-- one cursor moved to the document, and the others stay before it
pub alone-passed : {X : Type 0} (list : X → List Posting) (place : X → ℕ) (cs : List X) (i from : ℕ) (new : X) (F : ℕ → Type 0) (o : Option ℕ) → IfSome o (λ doc. HasPassed doc (list new) (place new)) → IfSome o (λ doc. (from ≤ doc) × F doc) → All (λ c. HasPassed from (list c) (place c)) cs
    → IfSome o (λ doc. All (λ c. HasPassed doc (list c) (place c)) (set cs i new))
alone-passed list place cs i from new F None here found all = tt
alone-passed list place cs i from new F (Some doc) here found all = All-set (λ x. HasPassed doc (list x) (place x)) cs i new here (later-passed list place cs from doc found.0 all)
