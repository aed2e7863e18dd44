-- Lemmas on top lists of the documents below a number, and on cursors that skip.
use Rattle.std.proofs.Common.{◌≡◌, refl, sym, ap, inl, inr, ◌∙◌, subst, ℕ, zero, suc, ◌+◌, ◌-◌, ◌<◌, ◌≤◌, Bool, true, false, cond, leb, List, [], ◌∷◌, ◌++◌, take, length, get_or, Some, arith}
use Rattle.std.specs.Prelude.{Contains}
use Rattle.std.specs.List.{All, filter, list_any}
use Rattle.std.proofs.lemmas.Bool.{cases_Bool, cases_lt, le-leb, lt-leb}
use Rattle.std.proofs.lemmas.List.{append-nil, length-map, length_push}
use Rattle.std.proofs.lemmas.List.Elements.{All-contains, All-filter, All-nil, All-weaker, Contains-append_left, Contains-push_cases, filter-append}
use Rattle.std.proofs.lemmas.List.Kept.{AllPairs-from_increasing}
use Rattle.collection_model.specs.Collection.{Posting, docs_of}
use Rattle.cursor_api.specs.NextGeq.{IsCursorAt}
use Rattle.scan_plans.specs.Matches.{has_doc, in_any, in_any_from, score}
use Rattle.scan_plans.specs.IsTop.{Before, IsTopOf, IsTopFrom}
use Rattle.scan_plans.specs.Ranking.{in_order, IsFirstK}
use Rattle.scan_plans.specs.Scan.{doc_at, StandsFrom, HasPassed}
use Rattle.scan_plans.specs.Skips.{IsBarred, CannotEnter}
use Rattle.scan_plans.proofs.Order.{Pair}
use Rattle.scan_plans.proofs.Scans.{filter-yes, filter-skip}
use Rattle.scan_plans.proofs.Postings.{doc_at-some, doc_at-within, docs-rise}
use Rattle.scan_plans.specs.Best.{pairs_of, IsBest}
use Rattle.scan_plans.proofs.Bests.{best-none, best-more, best-of, one-of, any-below, held-before}

-- ---- the documents below a number, one more
any-yes : (d : ℕ) (lists : List (List Posting)) → list_any (has_doc d) lists ≡ true → in_any (d + 1) lists ≡ in_any d lists ++ d ∷ []
any-yes d lists is = filter-yes (λ d. list_any (has_doc d) lists) d (d + 1) refl is

any-no : (d : ℕ) (lists : List (List Posting)) → list_any (has_doc d) lists ≡ false → in_any (d + 1) lists ≡ in_any d lists
any-no d lists is = filter-skip (λ d. list_any (has_doc d) lists) d (d + 1) (omega arith) (λ e from lt. let same : e ≡ d = omega arith in ap (λ e. list_any (has_doc e) lists) same ∙ is)

-- those whose scores reach a floor
from-more : (floor d : ℕ) (lists : List (List Posting)) (weights : List ℕ) (b : Bool) → list_any (has_doc d) lists ≡ true → leb floor (score lists weights d) ≡ b → in_any_from floor (d + 1) lists weights ≡ in_any_from floor d lists weights ++ cond b (d ∷ []) []
from-more floor d lists weights b has high =
    let p : ℕ → Bool = λ e. leb floor (score lists weights e) in
    ap (filter p) (any-yes d lists has) ∙ filter-append p (in_any d lists) (d ∷ []) ∙ ap (λ (b : Bool). in_any_from floor d lists weights ++ cond b (d ∷ []) []) high

from-yes : (floor d : ℕ) (lists : List (List Posting)) (weights : List ℕ) → list_any (has_doc d) lists ≡ true → floor ≤ score lists weights d → in_any_from floor (d + 1) lists weights ≡ in_any_from floor d lists weights ++ d ∷ []
from-yes floor d lists weights has high = from-more floor d lists weights true has (le-leb floor (score lists weights d) high)

from-low : (floor d : ℕ) (lists : List (List Posting)) (weights : List ℕ) → list_any (has_doc d) lists ≡ true → score lists weights d < floor → in_any_from floor (d + 1) lists weights ≡ in_any_from floor d lists weights
from-low floor d lists weights has low = from-more floor d lists weights false has (lt-leb floor (score lists weights d) low) ∙ append-nil (in_any_from floor d lists weights)

from-no : (floor d : ℕ) (lists : List (List Posting)) (weights : List ℕ) → list_any (has_doc d) lists ≡ false → in_any_from floor (d + 1) lists weights ≡ in_any_from floor d lists weights
from-no floor d lists weights not = ap (filter (λ e. leb floor (score lists weights e))) (any-no d lists not)

pub from-below : (floor low d : ℕ) (lists : List (List Posting)) (weights : List ℕ) → low ≤ d → All (λ e. e < d) (in_any_from floor low lists weights)
from-below floor low d lists weights le = All-filter (λ e. leb floor (score lists weights e)) (λ e. e < d) (in_any low lists) (any-below low d lists le)

-- ---- offers
-- nothing is best of all where nothing is held, so the pairs of all documents are in order
best-of_no_room : (floor low : ℕ) (lists : List (List Posting)) (weights : List ℕ) → IsBest 0 lists weights (in_any_from floor low lists weights) []
best-of_no_room floor zero lists weights = best-none 0 lists weights
best-of_no_room floor (suc low) lists weights =
    let before = best-of_no_room floor low lists weights in
    let Best : List ℕ → Type 0 = λ docs. IsBest 0 lists weights docs [] in
    let next : low + 1 ≡ suc low = omega arith in
    let all : List ℕ = in_any_from floor low lists weights in
    let none : IsFirstK 0 ((low, score lists weights low) ∷ []) [] = record { ordered = λ i j d lt within. absurd (omega arith); of_them = All-nil (Contains ((low, score lists weights low) ∷ [])); count = refl; others_after = λ e c absent. All-nil (λ h. Before h e) } in
    let more : Best (in_any_from floor (low + 1) lists weights) = elim (cases_Bool (list_any (has_doc low) lists)) as (λ _. Best (in_any_from floor (low + 1) lists weights)) [
      | inl has ↦ elim (cases_lt (score lists weights low) floor) as (λ _. Best (in_any_from floor (low + 1) lists weights)) [
        | inl under ↦ subst Best (sym (from-low floor low lists weights has under)) before
        | inr high ↦ subst Best (sym (from-yes floor low lists weights has high)) (best-more 0 lists weights all [] [] low before (from-below floor low low lists weights (omega arith)) none)
      ]
      | inr not ↦ subst Best (sym (from-no floor low lists weights not)) before
    ] in
    subst (λ (m : ℕ). Best (in_any_from floor m lists weights)) next more

-- a top list is the best of the documents
top-best : (floor low : ℕ) (lists : List (List Posting)) (weights : List ℕ) (k : ℕ) (held : List Pair) → IsTopFrom floor low lists weights k held → IsBest k lists weights (in_any_from floor low lists weights) held
top-best floor low lists weights k held top =
    let docs : List ℕ = in_any_from floor low lists weights in
    let ordered = (best-of_no_room floor low lists weights).ordered in
    let best : List Pair = take k (in_order (pairs_of lists weights docs)) in
    record { ordered = ordered; first = one-of docs lists weights k held best top (best-of docs lists weights k best (record { ordered = ordered; first = refl })) }

pub top-offered : (floor d : ℕ) (lists : List (List Posting)) (weights : List ℕ) (k : ℕ) (held new : List Pair) → IsTopFrom floor d lists weights k held → list_any (has_doc d) lists ≡ true → floor ≤ score lists weights d → IsFirstK k ((d, score lists weights d) ∷ held) new → IsTopFrom floor (d + 1) lists weights k new
top-offered floor d lists weights k held new top has high first =
    best-of (in_any_from floor (d + 1) lists weights) lists weights k new
    (subst (λ docs. IsBest k lists weights docs new) (sym (from-yes floor d lists weights has high)) (best-more k lists weights (in_any_from floor d lists weights) held new d (top-best floor d lists weights k held top) (from-below floor d d lists weights (omega arith)) first))

pub top-none : (floor : ℕ) (lists : List (List Posting)) (weights : List ℕ) (k : ℕ) → IsTopFrom floor 0 lists weights k []
top-none floor lists weights k = best-of [] lists weights k [] (best-none k lists weights)

-- ---- skips
pub top-below : (floor n : ℕ) (lists : List (List Posting)) (weights : List ℕ) (k : ℕ) (held : List Pair) → IsTopFrom floor n lists weights k held → All (λ (e : Pair). e.0 < n) held
top-below floor n lists weights k held top = All-weaker (λ (e : Pair). Contains (in_any_from floor n lists weights) e.0) (λ (e : Pair). e.0 < n) (λ e c. All-contains (λ d. d < n) (in_any_from floor n lists weights) e.0 (from-below floor n n lists weights (omega arith)) c) held top.found

-- the next document is none of those that are kept
skip-same : (floor d : ℕ) (lists : List (List Posting)) (weights : List ℕ) (k : ℕ) (held : List Pair) → in_any_from floor (d + 1) lists weights ≡ in_any_from floor d lists weights → IsTopFrom floor d lists weights k held → IsTopFrom floor (d + 1) lists weights k held
skip-same floor d lists weights k held same top = subst (λ (docs : List ℕ). IsTopOf docs lists weights k held) (sym same) top

-- k are held, and none has a lower score than the next document
skip-full : (floor d : ℕ) (lists : List (List Posting)) (weights : List ℕ) (k : ℕ) (held : List Pair) → list_any (has_doc d) lists ≡ true → floor ≤ score lists weights d → length held ≡ k → All (λ (e : Pair). score lists weights d ≤ e.1) held → IsTopFrom floor d lists weights k held → IsTopFrom floor (d + 1) lists weights k held
skip-full floor d lists weights k held has high full least top =
    let docs : List ℕ = in_any_from floor d lists weights in
    let more : in_any_from floor (d + 1) lists weights ≡ docs ++ d ∷ [] = from-yes floor d lists weights has high in
    let counts = ap length more in
    let pushed : length (docs ++ d ∷ []) ≡ length docs + 1 = length_push docs d in
    let count = top.count in
    let below = top-below floor d lists weights k held top in
    record {
      ordered = top.ordered;
      found = subst (λ (all : List ℕ). All (λ (e : Pair). Contains all e.0) held) (sym more) (All-weaker (λ (e : Pair). Contains docs e.0) (λ (e : Pair). Contains (docs ++ d ∷ []) e.0) (λ e c. Contains-append_left docs (d ∷ []) e.0 c) held top.found);
      scored = top.scored;
      count = omega arith;
      others_after = λ x c absent. elim (Contains-push_cases docs d x (subst (λ (all : List ℕ). Contains all x) more c)) as (λ _. All (λ (e : Pair). Before e (x, score lists weights x)) held) [
        | inl before ↦ top.others_after x before absent
        | inr same ↦ subst (λ (x : ℕ). All (λ (e : Pair). Before e (x, score lists weights x)) held) same (held-before d (score lists weights d) held below least)
      ];
    }

-- a list has the next document, and its score is barred
skip-barred : (floor d : ℕ) (lists : List (List Posting)) (weights : List ℕ) (k : ℕ) (held : List Pair) → list_any (has_doc d) lists ≡ true → IsBarred floor k held (score lists weights d) → IsTopFrom floor d lists weights k held → IsTopFrom floor (d + 1) lists weights k held
skip-barred floor d lists weights k held has (inl under) top = skip-same floor d lists weights k held (from-low floor d lists weights has under) top
skip-barred floor d lists weights k held has (inr full) top = elim (cases_lt (score lists weights d) floor) as (λ _. IsTopFrom floor (d + 1) lists weights k held) [
  | inl under ↦ skip-same floor d lists weights k held (from-low floor d lists weights has under) top
  | inr high ↦ skip-full floor d lists weights k held has high full.0 full.1 top
]

skip-one : (floor d : ℕ) (lists : List (List Posting)) (weights : List ℕ) (k : ℕ) (held : List Pair) → CannotEnter lists weights floor k held d → IsTopFrom floor d lists weights k held → IsTopFrom floor (d + 1) lists weights k held
skip-one floor d lists weights k held (inl absent) top = skip-same floor d lists weights k held (from-no floor d lists weights absent) top
skip-one floor d lists weights k held (inr barred) top = elim (cases_Bool (list_any (has_doc d) lists)) as (λ _. IsTopFrom floor (d + 1) lists weights k held) [
  | inl has ↦ skip-barred floor d lists weights k held has barred top
  | inr not ↦ skip-same floor d lists weights k held (from-no floor d lists weights not) top
]

skip-by : (floor low j : ℕ) (lists : List (List Posting)) (weights : List ℕ) (k : ℕ) (held : List Pair) → ((d : ℕ) → low ≤ d → d < low + j → CannotEnter lists weights floor k held d) → IsTopFrom floor low lists weights k held → IsTopFrom floor (low + j) lists weights k held
skip-by floor low zero lists weights k held none top = let e : low ≡ low + 0 = omega arith in subst (λ (n : ℕ). IsTopFrom floor n lists weights k held) e top
skip-by floor low (suc j) lists weights k held none top =
    let e : low + j + 1 ≡ low + suc j = omega arith in
    subst (λ (n : ℕ). IsTopFrom floor n lists weights k held) e (skip-one floor (low + j) lists weights k held (none (low + j) (omega arith) (omega arith)) (skip-by floor low j lists weights k held (λ d from lt. none d from (omega arith)) top))

pub top-skipped : (floor low high : ℕ) (lists : List (List Posting)) (weights : List ℕ) (k : ℕ) (held : List Pair) → low ≤ high → ((d : ℕ) → low ≤ d → d < high → CannotEnter lists weights floor k held d) → IsTopFrom floor low lists weights k held → IsTopFrom floor high lists weights k held
top-skipped floor low high lists weights k held le none top =
    let e : low + (high - low) ≡ high = omega arith in
    subst (λ (n : ℕ). IsTopFrom floor n lists weights k held) e (skip-by floor low (high - low) lists weights k held (λ d from lt. none d from (omega arith)) top)

-- ---- where cursors stand
pub stands-here : (list : List Posting) (d place : ℕ) → IsCursorAt list place → HasPassed d list place → ((e : ℕ) → doc_at list place ≡ Some e → d ≤ e) → StandsFrom d list place
stands-here list d place good before least = record {
  passed = before.passed;
  left = λ k after within.
      let first = least (get_or (docs_of list) place 0) (doc_at-within list place (omega arith)) in
      let rise = docs-rise list good.well_formed place k after within in
      omega arith;
}

pub stands-one_later : (list : List Posting) (d place : ℕ) → IsCursorAt list place → doc_at list place ≡ Some d → StandsFrom (d + 1) list (place + 1)
stands-one_later list d place good is =
    let here = doc_at-some list place d is in
    let at_d : get_or (docs_of list) place 0 ≡ d = here.1 in
    record {
      passed = λ k before. let h : get_or (docs_of list) k 0 ≤ get_or (docs_of list) place 0 = docs-rise list good.well_formed k place (omega arith) here.0 in omega arith;
      left = λ k after within. let h : get_or (docs_of list) place 0 < get_or (docs_of list) k 0 = AllPairs-from_increasing (docs_of list) good.well_formed.rising place k 0 (omega arith) (omega (arith, length-map list (λ p. p.doc))) in omega arith;
    }
