-- Lemmas on the documents whose scores reach a floor.
use Rattle.std.proofs.Common.{◌≡◌, refl, sym, ap, inl, inr, ◌⊎◌, ◌∙◌, subst, ℕ, zero, suc, ◌+◌, ◌*◌, ◌<◌, ◌≤◌, Bool, true, false, cond, leb, List, [], ◌∷◌, length, get_or, arith}
use Rattle.std.specs.Prelude.{Contains}
use Rattle.std.specs.List.{All, filter, list_any, range_with_len, sum_by, zip}
use Rattle.std.proofs.lemmas.Bool.{cases_lt, cases_Bool, leb-true, leb-false, le-leb}
use Rattle.std.proofs.lemmas.List.{length-map}
use Rattle.std.proofs.lemmas.List.Elements.{All-contains, All-weaker, filter_passes}
use Rattle.std.proofs.lemmas.List.Folds.{list_any_at}
use Rattle.std.proofs.lemmas.List.Kept.{AllPairs-from_increasing}
use Rattle.std.proofs.lemmas.List.Sums.{length-filter, count_by-le-length, get_or-le-sum_by}
use Rattle.std.proofs.lemmas.Nat.{mul-le}
use Rattle.std.proofs.lemmas.Slice.Zip.{length-zip, get_or-zip}
use Rattle.collection_model.specs.Collection.{Posting, docs_of, freqs_of}
use Rattle.cursor_api.specs.NextGeq.{IsCursorList}
use Rattle.scan_plans.specs.Matches.{has_doc, freq_of_doc, in_any, in_any_from, score}
use Rattle.scan_plans.specs.Scan.{StandsFrom}
use Rattle.scan_plans.specs.IsTop.{Before, IsTopOf, IsTopFrom, IsTop, TopAboveFloor, ScoresOfFrequent}
use Rattle.scan_plans.proofs.Postings.{at-doc, doc_at-within, docs-rise}
use Rattle.scan_plans.proofs.Scans.{contains-first, contains-later, contains-split}
use Rattle.scan_plans.proofs.Steps.{share}

-- ---- what a filter keeps
kept-here : (b : Bool) (x : ℕ) (ys : List ℕ) → length ys ≤ length (cond b (x ∷ ys) ys)
kept-here true x ys = omega arith
kept-here false x ys = omega arith

step-all : (p : ℕ → Bool) (b : Bool) (x : ℕ) (xs : List ℕ) → b ≡ true → filter p xs ≡ xs → cond b (x ∷ filter p xs) (filter p xs) ≡ x ∷ xs
step-all p true x xs is same = ap (λ (l : List ℕ). x ∷ l) same
step-all p false x xs is same = cc

-- each passes
filter-all : (p : ℕ → Bool) (xs : List ℕ) → ((x : ℕ) → p x ≡ true) → filter p xs ≡ xs
filter-all p [] all = refl
filter-all p (x ∷ xs) all = step-all p (p x) x xs (all x) (filter-all p xs all)

from-there : {X : Type 0} (b : Bool) (x y : X) (ys : List X) → Contains (cond b (x ∷ ys) ys) y → (x ≡ y) ⊎ Contains ys y
from-there true x y ys c = contains-split x ys y c
from-there false x y ys c = inr c

-- one that is kept was there
pub kept-from : {X : Type 0} (p : X → Bool) (xs : List X) (y : X) → Contains (filter p xs) y → Contains xs y
kept-from p [] y c = c
kept-from p (x ∷ xs) y c = elim (from-there (p x) x y (filter p xs) c) as (λ _. Contains (x ∷ xs) y) [
  | inl same ↦ (0, omega arith, same)
  | inr more ↦ contains-later x xs y (kept-from p xs y more)
]

to-here : {X : Type 0} (b : Bool) (x : X) (ys : List X) → b ≡ true → Contains (cond b (x ∷ ys) ys) x
to-here true x ys is = contains-first x ys
to-here false x ys is = cc

to-there : {X : Type 0} (b : Bool) (x y : X) (ys : List X) → Contains ys y → Contains (cond b (x ∷ ys) ys) y
to-there true x y ys c = contains-later x ys y c
to-there false x y ys c = c

-- one that passes is kept
pub kept-to : {X : Type 0} (p : X → Bool) (xs : List X) (y : X) → Contains xs y → p y ≡ true → Contains (filter p xs) y
kept-to p [] y c is = c
kept-to p (x ∷ xs) y c is = elim (contains-split x xs y c) as (λ _. Contains (filter p (x ∷ xs)) y) [
  | inl same ↦ subst (Contains (filter p (x ∷ xs))) same (to-here (p x) x (filter p xs) (ap p same ∙ is))
  | inr more ↦ to-there (p x) x y (filter p xs) (kept-to p xs y more is)
]

-- ---- a floor that k documents reach
top-of_many : (floor n : ℕ) (lists : List (List Posting)) (weights : List ℕ) (k : ℕ) (r : List (ℕ × ℕ)) → k ≤ length (in_any_from floor n lists weights) → IsTopFrom floor n lists weights k r → IsTop n lists weights k r
top-of_many floor n lists weights k r many top =
    let p : ℕ → Bool = λ d. leb floor (score lists weights d) in
    let all : List ℕ = in_any n lists in
    let count = top.count in
    let kept = length-filter p all in
    let fewer = count_by-le-length p all in
    record {
      ordered = top.ordered;
      found = All-weaker (λ e. Contains (filter p all) e.0) (λ e. Contains all e.0) (λ e c. kept-from p all e.0 c) r top.found;
      scored = top.scored;
      count = omega arith;
      others_after = λ d c absent. elim (cases_Bool (p d)) as (λ _. All (λ e. Before e (d, score lists weights d)) r) [
        | inl high ↦ top.others_after d (kept-to p all d c high) absent
        | inr low ↦ (λ i e within.
            let under = leb-false floor (score lists weights d) low in
            let scored = top.scored i e within in
            let above = leb-true floor (score lists weights (get_or r i e).0) (All-contains (λ d. p d ≡ true) (filter p all) (get_or r i e).0 (filter_passes p all) (top.found i e within)) in
            inl (omega arith))
      ];
    }

top-of_all : (floor n : ℕ) (lists : List (List Posting)) (weights : List ℕ) (k : ℕ) (r : List (ℕ × ℕ)) → floor ≡ 0 → IsTopFrom floor n lists weights k r → IsTop n lists weights k r
top-of_all floor n lists weights k r none top =
    let p : ℕ → Bool = λ d. leb floor (score lists weights d) in
    subst (λ (docs : List ℕ). IsTopOf docs lists weights k r) (filter-all p (in_any n lists) (λ d. le-leb floor (score lists weights d) (omega arith))) top

pub top-above_floor : TopAboveFloor
top-above_floor floor n lists weights k r (inl none) top = top-of_all floor n lists weights k r none top
top-above_floor floor n lists weights k r (inr many) top = top-of_many floor n lists weights k r many top

-- ---- the documents of frequent postings
module _ (h q : ℕ → Bool) where
  kept-grows : (b : Bool) (a : ℕ) (run : List ℕ) → length (filter q run) ≤ length (filter q (cond b (a ∷ run) run))
  kept-grows true a run = kept-here (q a) a (filter q run)
  kept-grows false a run = omega arith

  kept-both : (b : Bool) (a g : ℕ) (xs run : List ℕ) → (b ≡ true → (h a ≡ true) × (q a ≡ true)) → length xs ≤ length (filter q run) → length (cond b (g ∷ xs) xs) ≤ length (filter q (cond (h a) (a ∷ run) run))
  kept-both true a g xs run is le =
      let both = is refl in
      let one : length (filter q (cond (h a) (a ∷ run) run)) ≡ length (filter q (a ∷ run)) = ap (λ (b : Bool). length (filter q (cond b (a ∷ run) run))) both.0 in
      let two : length (filter q (a ∷ run)) ≡ length (a ∷ filter q run) = ap (λ (b : Bool). length (cond b (a ∷ filter q run) (filter q run))) both.1 in
      omega arith
  kept-both false a g xs run is le = let more = kept-grows (h a) a run in omega arith

  -- the documents of postings that rise from a number on are no more than those of the run that pass
  frequent-few : (f : ℕ) (l : List Posting) (a m : ℕ) → ((i j : ℕ) → i < j → j < length l → get_or (docs_of l) i 0 < get_or (docs_of l) j 0) → ((i : ℕ) → i < length l → a ≤ get_or (docs_of l) i 0) → ((i : ℕ) → i < length l → get_or (docs_of l) i 0 < a + m)
      → ((i : ℕ) → i < length l → leb f (get_or (freqs_of l) i 0) ≡ true → (h (get_or (docs_of l) i 0) ≡ true) × (q (get_or (docs_of l) i 0) ≡ true)) → length (filter (λ g. leb f g) (freqs_of l)) ≤ length (filter q (filter h (range_with_len a m)))
  frequent-few f [] a m rise low high each = omega arith
  frequent-few f (p ∷ l) a zero rise low high each = let below : p.doc < a + 0 = high 0 (omega arith) in let from : a ≤ p.doc = low 0 (omega arith) in absurd (omega arith)
  frequent-few f (p ∷ l) a (suc m) rise low high each =
      let run : List ℕ = filter h (range_with_len (a + 1) m) in
      let from : a ≤ p.doc = low 0 (omega arith) in
      let later : (i : ℕ) → i < length l → p.doc < get_or (docs_of l) i 0 = λ i within. rise 0 (suc i) (omega arith) (omega arith) in
      elim (cases_lt a p.doc) as (λ _. length (filter (λ g. leb f g) (freqs_of (p ∷ l))) ≤ length (filter q (cond (h a) (a ∷ run) run))) [
        | inl after ↦ (let more = frequent-few f (p ∷ l) (a + 1) m rise (λ i within. first-least i (a + 1) within (omega arith) later) (λ i within. let e = high i within in omega arith) each in
            let grows = kept-grows (h a) a run in
            omega arith)
        | inr here ↦ (let same : p.doc ≡ a = omega arith in
            let more = frequent-few f l (a + 1) m (λ i j lt within. rise (suc i) (suc j) (omega arith) (omega arith)) (λ i within. let e = later i within in omega arith) (λ i within. let e = high (suc i) (omega arith) in omega arith) (λ i within is. each (suc i) (omega arith) is) in
            kept-both (leb f p.freq) a p.freq (filter (λ g. leb f g) (freqs_of l)) run
            (λ is. let both = each 0 (omega arith) is in (ap h (sym same) ∙ both.0, ap q (sym same) ∙ both.1)) more)
      ]
    where
      first-least : (i b : ℕ) → i < length (p ∷ l) → b ≤ p.doc → ((i : ℕ) → i < length l → p.doc < get_or (docs_of l) i 0) → b ≤ get_or (docs_of (p ∷ l)) i 0
      first-least zero b within le later = le
      first-least (suc i) b within le later = let e = later i (omega arith) in omega arith

-- a posting of a list gives its document at least the weight times its frequency
posting-scores : (lists : List (List Posting)) (weights : List ℕ) (i j f : ℕ) → IsCursorList (get_or lists i []) → length weights ≡ length lists → i < length lists → j < length (get_or lists i []) → f ≤ get_or (freqs_of (get_or lists i [])) j 0
    → (list_any (has_doc (get_or (docs_of (get_or lists i [])) j 0)) lists ≡ true) × (get_or weights i 0 * f ≤ score lists weights (get_or (docs_of (get_or lists i [])) j 0))
posting-scores lists weights i j f good each within inside le =
    let list : List Posting = get_or lists i [] in
    let doc : ℕ = get_or (docs_of list) j 0 in
    let stands : StandsFrom doc list j = record {
      passed = λ k before. AllPairs-from_increasing (docs_of list) good.rising k j 0 before (omega (arith, length-map list (λ p. p.doc)));
      left = λ k after there. docs-rise list good j k after there;
    } in
    let at = at-doc list doc j good stands (doc_at-within list j inside) in
    let freq : freq_of_doc doc list ≡ get_or (freqs_of list) j 0 = at.freq in
    let pair : share doc (get_or (zip lists weights) i ([], 0)) ≡ get_or weights i 0 * freq_of_doc doc list = ap (share doc) (get_or-zip lists weights i ([], 0) within (omega arith)) in
    let least : share doc (get_or (zip lists weights) i ([], 0)) ≤ sum_by (share doc) (zip lists weights) = get_or-le-sum_by (share doc) (zip lists weights) i ([], 0) (omega (arith, length-zip lists weights)) in
    let product : get_or weights i 0 * f ≤ get_or weights i 0 * freq_of_doc doc list = mul-le (get_or weights i 0) f (get_or weights i 0) (freq_of_doc doc list) (omega arith) (omega arith) in
    let reached : get_or weights i 0 * f ≤ sum_by (share doc) (zip lists weights) = omega arith in
    (list_any_at (has_doc doc) lists i [] within at.has, reached)

pub scores-of_frequent : ScoresOfFrequent
scores-of_frequent n i f lists weights below good each within =
    let list : List Posting = get_or lists i [] in
    let floor : ℕ = get_or weights i 0 * f in
    let p : ℕ → Bool = λ d. leb floor (score lists weights d) in
    let count = length-map list (λ p. p.doc) in
    let few = frequent-few (λ d. list_any (has_doc d) lists) p f list 0 n (λ j k lt inside. AllPairs-from_increasing (docs_of list) good.rising j k 0 lt (omega arith)) (λ j inside. omega arith) (λ j inside. let e = below i [] within j 0 (omega arith) in omega arith)
    (λ j inside is. let scores = posting-scores lists weights i j f good each within inside (leb-true f (get_or (freqs_of list) j 0) is) in (scores.0, le-leb floor (score lists weights (get_or (docs_of list) j 0)) scores.1)) in
    let counted = length-filter (λ g. leb f g) (freqs_of list) in
    omega arith
