-- Lemmas on how many documents some lists have.
use Rattle.std.proofs.Common.{◌≡◌, refl, ap, ◌∙◌, ℕ, zero, suc, ◌+◌, ◌<◌, ◌≤◌, Bool, true, false, cond, eqb, List, [], ◌∷◌, length, arith}
use Rattle.std.specs.Prelude.{◌||◌, min, not}
use Rattle.std.specs.List.{filter, list_any, range_with_len, sum_by}
use Rattle.std.proofs.lemmas.Bool.{eqb-true, ne_eqb}
use Rattle.std.proofs.lemmas.List.Filters.{length-filter_both}
use Rattle.std.proofs.lemmas.List.FromFn.{length-range_with_len}
use Rattle.std.proofs.lemmas.List.Sums.{sum_by-cons}
use Rattle.collection_model.specs.Collection.{Posting}
use Rattle.scan_plans.specs.Matches.{has_doc, in_any}
use Rattle.scan_plans.specs.IsTop.{IsTop, TopOfPostings}

-- ---- what two tests keep
either-step : {X : Type 0} (a b : Bool) (x : X) (all some others : List X) → length all ≤ length some + length others
    → length (cond (a || b) (x ∷ all) all) ≤ length (cond a (x ∷ some) some) + length (cond b (x ∷ others) others)
either-step true true x all some others le = omega arith
either-step true false x all some others le = omega arith
either-step false true x all some others le = omega arith
either-step false false x all some others le = omega arith

-- one of two tests keeps no more than both together
kept-by_either : {X : Type 0} (p q : X → Bool) (xs : List X) → length (filter (λ x. p x || q x) xs) ≤ length (filter p xs) + length (filter q xs)
kept-by_either p q [] = omega arith
kept-by_either p q (x ∷ xs) = either-step (p x) (q x) x (filter (λ x. p x || q x) xs) (filter p xs) (filter q xs) (kept-by_either p q xs)

kept-by_none : {X : Type 0} (xs : List X) → length (filter (λ (x : X). false) xs) ≡ 0
kept-by_none [] = refl
kept-by_none (x ∷ xs) = kept-by_none xs

-- ---- one document of a run
-- none is a number before it
before-run : (d a n : ℕ) → d < a → length (filter (λ e. eqb d e) (range_with_len a n)) ≡ 0
before-run d a zero lt = refl
before-run d a (suc n) lt =
    let not : eqb d a ≡ false = ne_eqb d a (λ same. omega (arith, same)) in
    ap (λ (b : Bool). length (cond b (a ∷ filter (λ e. eqb d e) (range_with_len (a + 1) n)) (filter (λ e. eqb d e) (range_with_len (a + 1) n)))) not ∙ before-run d (a + 1) n (omega arith)

once-step : (b : Bool) (d a n : ℕ) → eqb d a ≡ b → length (filter (λ e. eqb d e) (range_with_len (a + 1) n)) ≤ 1 → length (cond b (a ∷ filter (λ e. eqb d e) (range_with_len (a + 1) n)) (filter (λ e. eqb d e) (range_with_len (a + 1) n))) ≤ 1
once-step true d a n is more = let same : d ≡ a = eqb-true d a is in let none = before-run d (a + 1) n (omega arith) in omega arith
once-step false d a n is more = more

-- a number is in a run once at most
once-in_run : (d a n : ℕ) → length (filter (λ e. eqb d e) (range_with_len a n)) ≤ 1
once-in_run d a zero = omega arith
once-in_run d a (suc n) = once-step (eqb d a) d a n refl (once-in_run d (a + 1) n)

-- ---- the documents of lists
one-list : (n : ℕ) (l : List Posting) → length (filter (λ d. has_doc d l) (range_with_len 0 n)) ≤ length l
one-list n [] = let none = kept-by_none (range_with_len 0 n) in omega arith
one-list n (p ∷ l) =
    let both = kept-by_either (λ d. eqb p.doc d) (λ d. has_doc d l) (range_with_len 0 n) in
    let here = once-in_run p.doc 0 n in
    let more = one-list n l in
    omega arith

-- the documents of some lists are no more than their postings
pub any-few : (n : ℕ) (lists : List (List Posting)) → length (in_any n lists) ≤ sum_by length lists
any-few n [] = let none = kept-by_none (range_with_len 0 n) in omega arith
any-few n (l ∷ lists) =
    let both = kept-by_either (λ d. has_doc d l) (λ d. list_any (has_doc d) lists) (range_with_len 0 n) in
    let here = one-list n l in
    let more = any-few n lists in
    let whole = sum_by-cons length l lists in
    omega arith

-- a top list of as many as there are postings is that of more
pub top-of_few : TopOfPostings
top-of_few n lists weights k r top =
    let few = any-few n lists in
    let count = top.count in
    record { ordered = top.ordered; found = top.found; scored = top.scored; count = omega arith; others_after = top.others_after }

-- nor more than n
any-below_n : (n : ℕ) (lists : List (List Posting)) → length (in_any n lists) ≤ n
any-below_n n lists =
    let p : ℕ → Bool = λ d. list_any (has_doc d) lists in
    let both = length-filter_both p (λ d. not (p d)) (λ d. refl) (range_with_len 0 n) in
    let all = length-range_with_len 0 n in
    omega arith

-- one of n is that of more
pub top-of_all : (n : ℕ) (lists : List (List Posting)) (weights : List ℕ) (k : ℕ) (r : List (ℕ × ℕ)) → IsTop n lists weights (min k n) r → IsTop n lists weights k r
top-of_all n lists weights k r top =
    let few = any-below_n n lists in
    let count = top.count in
    record { ordered = top.ordered; found = top.found; scored = top.scored; count = omega arith; others_after = top.others_after }
