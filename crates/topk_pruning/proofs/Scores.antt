-- Lemmas on scores, bounds and the lists of terms.
use Rattle.std.proofs.Common.{◌≡◌, refl, sym, ap, inl, inr, ◌∙◌, ℕ, ◌*◌, ◌<◌, ◌≤◌, ◌^◌, Bool, true, false, cond, eqb, max, List, [], ◌∷◌, map, take, drop, length, get_or, Option, Some, None, arith}
use Rattle.std.specs.Prelude.{◌||◌}
use Rattle.std.specs.List.{All, sum_by, list_any, find, range_with_len, zip}
use Rattle.std.specs.List.Sorted.{IsPermutation}
use Rattle.std.specs.Option.{option_map, unwrap_or}
use Rattle.std.proofs.lemmas.Bool.{cases_Bool, false≢true, ltb-false, le-ltb}
use Rattle.std.proofs.lemmas.List.{take_all}
use Rattle.std.proofs.lemmas.Nat.{mul-le}
use Rattle.std.proofs.lemmas.List.Elements.{All-head, All-tail, All-map, All-drop}
use Rattle.std.proofs.lemmas.List.FromFn.{length-range_with_len, get_or-range_with_len, fill_by_all}
use Rattle.std.proofs.lemmas.List.Folds.{list_any_at}
use Rattle.std.proofs.lemmas.List.Sorted.{All-permutation}
use Rattle.std.proofs.lemmas.List.Sums.{sum_by-cons, sum_by-take-drop}
use Rattle.std.proofs.lemmas.Slice.Zip.{length-zip, get_or-zip}
use Rattle.collection_model.specs.Collection.{Posting, greatest_freq}
use Rattle.scan_plans.specs.Matches.{has_doc, freq_of_doc, score}
use Rattle.scan_plans.specs.Skips.{IsBarred, CannotEnter}
use Rattle.topk_pruning.specs.declared.term.Term.{Term}
use Rattle.topk_pruning.specs.Terms.{term_of, terms_of, list_of, share, score_in, in_lists, bounds, beats, AreTerms, AreAllTerms, AreSpared}
use Rattle.topk_pruning.proofs.Alike.{alike-moved, alike-score, alike-any}
use Rattle.topk_pruning.proofs.Bars.{barred-lower}

-- ---- one list
absent-step : (b : Bool) (p : Posting) (l : List Posting) (d : ℕ) → (b || has_doc d l) ≡ false → (has_doc d l ≡ false → freq_of_doc d l ≡ 0) → unwrap_or (option_map (λ p. p.freq) (cond b (Some p) (find (λ p. eqb p.doc d) l))) 0 ≡ 0
absent-step true p l d is more = cc
absent-step false p l d is more = more is

-- a list that has not a document adds nothing
pub freq-absent : (d : ℕ) (l : List Posting) → has_doc d l ≡ false → freq_of_doc d l ≡ 0
freq-absent d [] is = refl
freq-absent d (p ∷ l) is = absent-step (eqb p.doc d) p l d is (freq-absent d l)

most-step : (b : Bool) (p : Posting) (l : List Posting) (d : ℕ) → freq_of_doc d l ≤ greatest_freq l → unwrap_or (option_map (λ p. p.freq) (cond b (Some p) (find (λ p. eqb p.doc d) l))) 0 ≤ max p.freq (greatest_freq l)
most-step true p l d more = omega arith
most-step false p l d more = omega arith

-- no frequency is above the greatest
pub freq-most : (d : ℕ) (l : List Posting) → freq_of_doc d l ≤ greatest_freq l
freq-most d [] = omega arith
freq-most d (p ∷ l) = most-step (eqb p.doc d) p l d (freq-most d l)

pub share-within : (lists : List (List Posting)) (d : ℕ) (t : Term) → t.bound ≡ t.weight * greatest_freq (list_of lists t) → share lists d t ≤ t.bound
share-within lists d t is = let le : share lists d t ≤ t.weight * greatest_freq (list_of lists t) = mul-le t.weight (freq_of_doc d (list_of lists t)) t.weight (greatest_freq (list_of lists t)) (omega arith) (freq-most d (list_of lists t)) in omega arith

share-absent : (lists : List (List Posting)) (d : ℕ) (t : Term) → has_doc d (list_of lists t) ≡ false → share lists d t ≡ 0
share-absent lists d t is = let none : t.weight * 0 ≡ 0 = omega arith in ap (λ (n : ℕ). t.weight * n) (freq-absent d (list_of lists t) is) ∙ none

-- ---- sums
pub sums-le : {X : Type 0} (f g : X → ℕ) (xs : List X) → All (λ x. f x ≤ g x) xs → sum_by f xs ≤ sum_by g xs
sums-le f g [] all = omega arith
sums-le f g (x ∷ xs) all =
    let a = sum_by-cons f x xs in
    let b = sum_by-cons g x xs in
    let here : f x ≤ g x = All-head (λ x. f x ≤ g x) x xs all in
    let more = sums-le f g xs (All-tail (λ x. f x ≤ g x) x xs all) in
    omega arith

sum-none : {X : Type 0} (f : X → ℕ) (xs : List X) → All (λ x. f x ≡ 0) xs → sum_by f xs ≡ 0
sum-none f [] all = refl
sum-none f (x ∷ xs) all =
    let a = sum_by-cons f x xs in
    let here : f x ≡ 0 = All-head (λ x. f x ≡ 0) x xs all in
    let more = sum-none f xs (All-tail (λ x. f x ≡ 0) x xs all) in
    omega arith

sums-same : {X Y Z : Type 0} (g : Y → ℕ) (h : Z → ℕ) (f : X → Y) (k : X → Z) → ((x : X) → g (f x) ≡ h (k x)) → (xs : List X) → sum_by g (map f xs) ≡ sum_by h (map k xs)
sums-same g h f k same [] = refl
sums-same g h f k same (x ∷ xs) =
    let a = sum_by-cons g (f x) (map f xs) in
    let b = sum_by-cons h (k x) (map k xs) in
    let here = same x in
    let more = sums-same g h f k same xs in
    omega arith

any-same : {X Y Z : Type 0} (p : Y → Bool) (q : Z → Bool) (f : X → Y) (k : X → Z) → ((x : X) → p (f x) ≡ q (k x)) → (xs : List X) → list_any p (map f xs) ≡ list_any q (map k xs)
any-same p q f k same [] = refl
any-same p q f k same (x ∷ xs) = let here = same x in let more = any-same p q f k same xs in λ i. here i || more i

-- none passes
none-of_any : {X : Type 0} (p : X → Bool) (xs : List X) → list_any p xs ≡ false → All (λ x. p x ≡ false) xs
none-of_any p xs none k d within = elim (cases_Bool (p (get_or xs k d))) as (λ _. p (get_or xs k d) ≡ false) [
  | inl is ↦ absurd (false≢true (sym none ∙ list_any_at p xs k d within is))
  | inr not ↦ not
]

-- ---- the terms of a query
score-terms : (lists : List (List Posting)) (weights : List ℕ) (d : ℕ) → length weights ≡ length lists → score lists weights d ≡ score_in lists d (terms_of lists weights)
score-terms lists weights d each =
    let n : ℕ = length lists in
    let at : ℕ → List Posting × ℕ = λ i. (get_or lists i [], get_or weights i 0) in
    let pairs : zip lists weights ≡ map at (range_with_len 0 n) = fill_by_all at (zip lists weights) n ([], 0) (omega (arith, length-zip lists weights)) (λ k within. get_or-zip lists weights k ([], 0) within (omega arith)) in
    ap (sum_by (λ e. e.1 * freq_of_doc d e.0)) pairs ∙ sums-same (λ e. e.1 * freq_of_doc d e.0) (share lists d) at (term_of lists weights) (λ i. refl) (range_with_len 0 n)

any-terms : (lists : List (List Posting)) (weights : List ℕ) (d : ℕ) → list_any (has_doc d) lists ≡ in_lists lists d (terms_of lists weights)
any-terms lists weights d =
    let n : ℕ = length lists in
    let at : ℕ → List Posting = λ i. get_or lists i [] in
    let all : lists ≡ map at (range_with_len 0 n) = fill_by_all at lists n [] refl (λ k within. refl) in
    ap (list_any (has_doc d)) all ∙ any-same (has_doc d) (λ t. has_doc d (list_of lists t)) at (term_of lists weights) (λ i. refl) (range_with_len 0 n)

-- the score of a document is that in the lists of all the terms, in any order
pub score-is : (lists : List (List Posting)) (weights : List ℕ) (terms : List Term) (d : ℕ) → AreAllTerms lists weights terms → score lists weights d ≡ score_in lists d terms
score-is lists weights terms d are = score-terms lists weights d are.each ∙ alike-score lists d (terms_of lists weights) terms are.all

pub any-is : (lists : List (List Posting)) (weights : List ℕ) (terms : List Term) (d : ℕ) → AreAllTerms lists weights terms → list_any (has_doc d) lists ≡ in_lists lists d terms
any-is lists weights terms d are = any-terms lists weights d ∙ alike-any lists d (terms_of lists weights) terms are.all

pub terms-are : (lists : List (List Posting)) (weights : List ℕ) (terms : List Term) → IsPermutation (terms_of lists weights) terms → bounds terms < 2 ^ 58 → AreTerms lists terms
terms-are lists weights terms all light =
    let n : ℕ = length lists in
    let Within : Term → Type 0 = λ t. t.list < n in
    let Bounded : Term → Type 0 = λ t. t.bound ≡ t.weight * greatest_freq (list_of lists t) in
    record {
      within = All-permutation Within (terms_of lists weights) terms all (All-map Within (term_of lists weights) (range_with_len 0 n) (λ k d within. let l = length-range_with_len 0 n in let e = get_or-range_with_len 0 n k d (omega arith) in omega arith));
      bounded = All-permutation Bounded (terms_of lists weights) terms all (All-map Bounded (term_of lists weights) (range_with_len 0 n) (λ k d within. refl));
      light = light;
    }

-- they are all its terms
pub all-terms : (lists : List (List Posting)) (weights : List ℕ) (terms : List Term) → length weights ≡ length lists → IsPermutation (terms_of lists weights) terms → AreAllTerms lists weights terms
all-terms lists weights terms each moved = record { each = each; all = alike-moved (terms_of lists weights) terms moved }

-- ---- what is skipped
-- what a term of a whole list adds to the score of a document is within its bound
pub bounded-at : (lists : List (List Posting)) (terms : List Term) (d : ℕ) → AreTerms lists terms → All (λ t. share lists d t ≤ t.bound) terms
bounded-at lists terms d are k e within = share-within lists d (get_or terms k e) (are.bounded k e within)

pub shares-within : (lists : List (List Posting)) (d : ℕ) (terms : List Term) → All (λ t. share lists d t ≤ t.bound) terms → score_in lists d terms ≤ bounds terms
shares-within lists d terms bounded = sums-le (share lists d) (λ t. t.bound) terms bounded

-- a document that none of the lists has
pub score-none : (lists : List (List Posting)) (d : ℕ) (terms : List Term) → in_lists lists d terms ≡ false → score_in lists d terms ≡ 0
score-none lists d terms none = sum-none (share lists d) terms (λ k e within. share-absent lists d (get_or terms k e) (none-of_any (λ t. has_doc d (list_of lists t)) terms none k e within))

-- a document that only the later terms' lists can have has no more than their bounds
pub few-bound : (lists : List (List Posting)) (d count : ℕ) (terms : List Term) → All (λ t. share lists d t ≤ t.bound) terms → in_lists lists d (take count terms) ≡ false → score_in lists d terms ≤ bounds (drop count terms)
few-bound lists d count terms bounded none =
    let P : Term → Type 0 = λ t. share lists d t ≤ t.bound in
    let first = score-none lists d (take count terms) none in
    let rest = shares-within lists d (drop count terms) (All-drop P count terms bounded) in
    let whole = sum_by-take-drop (share lists d) terms count in
    omega arith

-- a lower score does not beat it either
pub beats-lower : (o : Option ℕ) (low high : ℕ) → low ≤ high → beats o high ≡ false → beats o low ≡ false
beats-lower None low high le is = is
beats-lower (Some s) low high le is = let below : high ≤ s = ltb-false s high is in le-ltb s low (omega arith)

-- a document that no essential term's list has cannot enter
pub spared-cannot : (lists : List (List Posting)) (weights : List ℕ) (terms : List Term) (floor k essential d : ℕ) (held : List (ℕ × ℕ)) → AreAllTerms lists weights terms → All (λ t. share lists d t ≤ t.bound) terms → AreSpared floor k held terms essential → in_lists lists d (take essential terms) ≡ false → CannotEnter lists weights floor k held d
spared-cannot lists weights terms floor k essential d held all bounded so none = elim so.spared as (λ _. CannotEnter lists weights floor k held d) [
  | inl whole ↦ (let same : take essential terms ≡ terms = take_all essential terms (omega arith) in inl (any-is lists weights terms d all ∙ ap (in_lists lists d) (sym same) ∙ none))
  | inr full ↦ (let le = few-bound lists d essential terms bounded none in
      let is = score-is lists weights terms d all in
      inr (barred-lower floor k held (bounds (drop essential terms)) (score lists weights d) (omega arith) full))
]

-- a document whose score does not beat the bar cannot either
pub beaten-cannot : (lists : List (List Posting)) (weights : List ℕ) (terms : List Term) (floor k d : ℕ) (o : Option ℕ) (held : List (ℕ × ℕ)) → AreAllTerms lists weights terms → ((s : ℕ) → beats o s ≡ false → IsBarred floor k held s) → beats o (score_in lists d terms) ≡ false → CannotEnter lists weights floor k held d
beaten-cannot lists weights terms floor k d o held all bars is = inr (bars (score lists weights d) (ap (beats o) (score-is lists weights terms d all) ∙ is))
