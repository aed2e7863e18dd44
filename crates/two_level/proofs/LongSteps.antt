-- Lemmas on the steps of some values, and on those of them that are at least so long.
use Rattle.std.proofs.Common.{◌≡◌, refl, ℕ, zero, suc, ◌+◌, ◌-◌, ◌*◌, ◌<◌, ◌≤◌, min, leb, Bool, true, false, cond, List, [], ◌∷◌, ◌++◌, length, take, drop, set, replicate, get_or, slice_index, inl, inr, sym, ap, ◌∙◌, subst, arith}
use Rattle.std.specs.Prelude.{if◌then◌else◌}
use Rattle.std.specs.List.{slice_range, position_or_len, range_with_len, flat_map}
use Rattle.std.specs.List.Sorted.{IsStrictlyIncreasing}
use Rattle.std.proofs.lemmas.Bool.{cases_lt, leb-false, leb-true, le-leb, lt-leb}
use Rattle.std.proofs.lemmas.List.{drop_more, get_or-take, get_or-drop, take-take, drop-take, flat_map_more, map-id}
use Rattle.std.proofs.lemmas.List.FromFn.{map-range_with_len_more}
use Rattle.std.proofs.lemmas.List.Sums.{prefix_len-le-length, fails_before_first, passes_at_first, sum_by-cons, sum_by-take-drop, sum_by-take-le, sum_by-set, sum_by-append}
use Rattle.std.proofs.lemmas.List.Folds.{sum_by-replicate}
use Rattle.collection_model.specs.Sequences.{steps_from}
use Rattle.collection_model.proofs.Sequences.{steps-length}
use Rattle.part_cost.specs.Span.{past, universe}
use Rattle.part_cost.proofs.Parts.{rises}
use Rattle.sequence_words.specs.SequenceView.{place_at_least}
use Rattle.two_level.specs.LongSteps.{IsFirstStep, count_reaching, KeepsLongest, steps_if_long}
use Rattle.part_directory.proofs.Places.{found-place}

-- one past the value before place i, where one past the value before the first is given
abbrev past-on : ℕ → List ℕ → ℕ → ℕ
past-on b xs zero = b
past-on b xs (suc i) = get_or xs i 0 + 1

past-behind : (b x : ℕ) (xs : List ℕ) (i : ℕ) → past-on (x + 1) xs i ≡ past-on b (x ∷ xs) (suc i)
past-behind b x xs zero = refl
past-behind b x xs (suc i) = refl

past-at_start : (xs : List ℕ) (i : ℕ) → past-on 0 xs i ≡ past xs i
past-at_start xs zero = refl
past-at_start xs (suc i) = refl

steps-drop_on : (b : ℕ) (xs : List ℕ) (n : ℕ) → n ≤ length xs → drop n (steps_from b xs) ≡ steps_from (past-on b xs n) (drop n xs)
steps-drop_on b xs zero le = refl
steps-drop_on b [] (suc n) le = absurd (omega arith)
steps-drop_on b (x ∷ xs) (suc n) le = steps-drop_on (x + 1) xs n (omega arith) ∙ ap (λ k. steps_from k (drop n xs)) (past-behind b x xs n)

-- the steps from a place on
pub steps-drop : (xs : List ℕ) (n : ℕ) → n ≤ length xs → drop n (steps_from 0 xs) ≡ steps_from (past xs n) (drop n xs)
steps-drop xs n le = steps-drop_on 0 xs n le ∙ ap (λ k. steps_from k (drop n xs)) (past-at_start xs n)

-- the steps of the first values
steps-take : (b n : ℕ) (xs : List ℕ) → steps_from b (take n xs) ≡ take n (steps_from b xs)
steps-take b zero xs = refl
steps-take b (suc n) [] = refl
steps-take b (suc n) (x ∷ xs) = ap (λ ys. (x + 1 - b) ∷ ys) (steps-take (x + 1) n xs)

-- the steps of some values are some of the steps
pub steps-range : (xs given : List ℕ) (place before : ℕ) → place ≤ length xs → given ≡ slice_range xs place (place + length given) → before ≡ past xs place
    → steps_from before given ≡ slice_range (steps_from 0 xs) place (place + length given)
steps-range xs given place before le all is =
    ap (λ b. steps_from b given) is ∙ ap (steps_from (past xs place)) all ∙ steps-take (past xs place) (place + length given - place) (drop place xs)
    ∙ ap (take (place + length given - place)) (sym (steps-drop xs place le))

-- the step at a place
pub step-at : (xs : List ℕ) (k : ℕ) → k < length xs → slice_index (steps_from 0 xs) k ≡ universe xs k (suc k)
step-at xs k lt =
    let here : get_or (drop k (steps_from 0 xs)) 0 0 ≡ get_or (steps_from 0 xs) (k + 0) 0 = get_or-drop k (steps_from 0 xs) 0 0 in
    let same : get_or (steps_from 0 xs) (k + 0) 0 ≡ get_or (steps_from 0 xs) k 0 = ap (λ i. get_or (steps_from 0 xs) i 0) (let e : k + 0 ≡ k = omega arith in e) in
    sym same ∙ sym here ∙ ap (λ ys. get_or ys 0 0) (steps-drop xs k (omega arith) ∙ ap (steps_from (past xs k)) (drop_more xs k 0 lt))

-- the first long step of a block of values
pub first-of_block : (xs given : List ℕ) (place before least found : ℕ) → place + length given ≤ length xs → given ≡ slice_range xs place (place + length given) → before ≡ past xs place
    → found ≡ position_or_len (λ s. leb least s) (steps_from before given) → IsFirstStep xs place (place + length given) least (place + found)
first-of_block xs given place before least found fit all is first =
    let n : ℕ = length given in
    let steps : List ℕ = steps_from before given in
    let long : length steps ≡ n = steps-length before given in
    let most : position_or_len (λ s. leb least s) steps ≤ length steps = prefix_len-le-length _ steps in
    let at : (j : ℕ) → j < n → get_or steps j 0 ≡ slice_index (steps_from 0 xs) (place + j) =
    λ j lt. ap (λ ys. get_or ys j 0) (steps-range xs given place before (omega (arith, fit)) all is) ∙ get_or-take (place + n - place) (drop place (steps_from 0 xs)) j 0 (omega (arith, lt)) ∙ get_or-drop place (steps_from 0 xs) j 0 in
    record {
      after = omega arith;
      within = omega (arith, first, most, long);
      passed =
          λ k le lt.
          let j : ℕ = k - place in
          let less = leb-false _ _ (fails_before_first (λ s. leb least s) steps j 0 (omega (arith, first, le, lt))) in
          let same : slice_index (steps_from 0 xs) (place + j) ≡ slice_index (steps_from 0 xs) k = ap (slice_index (steps_from 0 xs)) (let e : place + (k - place) ≡ k = omega (arith, le) in e) in
          omega (arith, less, at j (omega (arith, le, lt, first, most, long)), same);
      reached =
          λ lt.
          let more = leb-true _ _ (passes_at_first (λ s. leb least s) steps 0 (omega (arith, lt, first, long))) in
          let same : get_or steps found 0 ≡ get_or steps (position_or_len (λ s. leb least s) steps) 0 = ap (λ i. get_or steps i 0) first in
          omega (arith, more, same, at found (omega (arith, lt)));
    }

-- no step from a place up to itself
pub first-none : (xs : List ℕ) (from least : ℕ) → IsFirstStep xs from from least from
first-none xs from least = record { after = omega arith; within = omega arith; passed = λ k le lt. absurd (omega (arith, le, lt)); reached = λ lt. absurd (omega (arith, lt)) }

-- where no step up to a place is so long, the first is one behind
pub first-behind : (xs : List ℕ) (from mid to least found : ℕ) → IsFirstStep xs from mid least mid → IsFirstStep xs mid to least found → IsFirstStep xs from to least found
first-behind xs from mid to least found prefix back = record {
  after = omega (arith, prefix.after, back.after);
  within = back.within;
  passed = λ k le lt. elim (cases_lt k mid) [ inl early ↦ prefix.passed k le early | inr late ↦ back.passed k late lt ];
  reached = back.reached;
}

-- a long step before a place is the first up to a later one
pub first-before : (xs : List ℕ) (from mid to least found : ℕ) → IsFirstStep xs from mid least found → found < mid → mid ≤ to → IsFirstStep xs from to least found
first-before xs from mid to least found h lt le = record { after = h.after; within = omega (arith, lt, le); passed = h.passed; reached = λ _. h.reached lt }

-- of all places, or the end
pub first-of_all : (xs : List ℕ) (from to least found : ℕ) → to ≡ length xs → IsFirstStep xs from to least found → found ≡ place_at_least (steps_from 0 xs) from least
first-of_all xs from to least found all h =
    found-place (steps_from 0 xs) from found least h.after (omega (arith, h.within, all, steps-length 0 xs)) h.passed (λ lt. h.reached (omega (arith, lt, all, steps-length 0 xs)))

-- a part has no step longer than its numbers leave room for
pub first-in_short : (xs : List ℕ) → IsStrictlyIncreasing xs → (i j from least : ℕ) → i ≤ from → from ≤ j → j ≤ length xs → universe xs i j - (j - i) + 1 < least → IsFirstStep xs from j least j
first-in_short xs up i j from least a b fit short = record {
  after = b;
  within = omega arith;
  passed =
      λ k le lt.
      let prefix = rises xs up i k (omega (arith, a, le)) (omega (arith, lt, fit)) in
      let back = rises xs up (suc k) j (omega (arith, lt)) fit in
      let here = rises xs up k (suc k) (omega arith) (omega (arith, lt, fit)) in
      omega (arith, prefix, back, here, short, step-at xs k (omega (arith, lt, fit)), a, le, lt);
  reached = λ lt. absurd (omega (arith, lt));
}

-- the step of the one number of a part
pub first-in_one : (xs : List ℕ) (i j from least : ℕ) → i ≤ from → from < j → j ≤ length xs → j - i ≡ 1 → least ≤ universe xs i j → IsFirstStep xs from j least from
first-in_one xs i j from least a lt fit one long = record {
  after = omega arith;
  within = omega (arith, lt);
  passed = λ k le less. absurd (omega (arith, le, less));
  reached =
      λ _.
      let start : i ≡ from = omega (arith, a, lt, one) in
      let end : j ≡ suc from = omega (arith, a, lt, one) in
      omega (arith, step-at xs from (omega (arith, lt, fit)), long, ap (λ n. universe xs n j) start, ap (λ n. universe xs from n) end);
}

-- each step is 1 at least
pub first-of_any : (xs : List ℕ) → IsStrictlyIncreasing xs → (from least : ℕ) → from ≤ length xs → least ≤ 1 → IsFirstStep xs from (length xs) least from
first-of_any xs up from least fit few = record {
  after = omega arith;
  within = fit;
  passed = λ k le less. absurd (omega (arith, le, less));
  reached = λ lt. omega (arith, step-at xs from lt, rises xs up from (suc from) (omega arith) (omega (arith, lt)), few);
}

-- the count of one more number
pub count-cons : (least x : ℕ) (xs : List ℕ) → count_reaching least (x ∷ xs) ≡ cond {A = ℕ} (leb least x) 1 0 + count_reaching least xs
count-cons least x xs = sum_by-cons (λ n. cond (leb least n) 1 0) x xs

-- the counts up to a place, and from there up to another
pub count-range : (least : ℕ) (xs : List ℕ) (i j : ℕ) → i ≤ j → count_reaching least (take i xs) + count_reaching least (slice_range xs i j) ≡ count_reaching least (take j xs)
count-range least xs i j le =
    let same : i + (j - i) ≡ j = omega (arith, le) in
    let whole = sum_by-take-drop (λ n. cond {A = ℕ} (leb least n) 1 0) (take j xs) i in
    omega (arith, whole, ap (count_reaching least) (take-take i j xs le), ap (count_reaching least) (ap (λ n. drop i (take n xs)) (sym same) ∙ drop-take i (j - i) xs))

-- numbers that are zero reach nothing
pub count-zeros : (least n k : ℕ) → 1 ≤ least → count_reaching least (take k (replicate n 0)) ≡ 0
count-zeros least n k some =
    let none : cond {A = ℕ} (leb least 0) 1 0 ≡ 0 = ap (λ b. cond {A = ℕ} b 1 0) (lt-leb _ _ some) in
    omega (arith, sum_by-take-le (λ x. cond {A = ℕ} (leb least x) 1 0) (replicate n 0) k, sum_by-replicate (λ x. cond {A = ℕ} (leb least x) 1 0) n 0, ap (λ c. n * c) none)

-- numbers that all reach one are all counted
pub count-all : (least : ℕ) (xs : List ℕ) → ((j : ℕ) → j < length xs → least ≤ get_or xs j 0) → count_reaching least xs ≡ length xs
count-all least [] each = refl
count-all least (x ∷ xs) each =
    let more : count_reaching least xs ≡ length xs = count-all least xs (λ j lt. each (suc j) (omega arith)) in
    let one : cond {A = ℕ} (leb least x) 1 0 ≡ 1 = ap (λ b. cond {A = ℕ} b 1 0) (le-leb _ _ (each 0 (omega arith))) in
    omega (arith, more, one, count-cons least x xs)

-- a number is counted once at most
one-most : (least x : ℕ) → cond {A = ℕ} (leb least x) 1 0 ≤ 1
one-most least x = elim (leb least x) as (λ b. cond {A = ℕ} b 1 0 ≤ 1) [ true ↦ omega arith | false ↦ omega arith ]

-- no more numbers reach one than there are
pub count-most : (least : ℕ) (xs : List ℕ) → count_reaching least xs ≤ length xs
count-most least [] = omega arith
count-most least (x ∷ xs) =
    let more : count_reaching least xs ≤ length xs = count-most least xs in
    omega (arith, more, one-most least x, count-cons least x xs)

-- where as many numbers reach one as there are, each does
pub all-counted : (least : ℕ) (xs : List ℕ) → length xs ≤ count_reaching least xs → (j : ℕ) → j < length xs → least ≤ get_or xs j 0
all-counted least [] every j lt = absurd (omega (arith, lt))
all-counted least (x ∷ xs) every zero lt =
    elim (cases_lt x least) [
      | inl below ↦
          let none : cond {A = ℕ} (leb least x) 1 0 ≡ 0 = ap (λ b. cond {A = ℕ} b 1 0) (lt-leb _ _ below) in
          absurd (omega (arith, every, none, count-cons least x xs, count-most least xs))
      | inr above ↦ above
    ]
all-counted least (x ∷ xs) every (suc j) lt = all-counted least xs (omega (arith, every, count-cons least x xs, one-most least x)) j (omega (arith, lt))

-- one more block of values has no long step
pub first-next : (xs : List ℕ) (from place size room count least : ℕ) → IsFirstStep xs from place least place → IsFirstStep xs place (place + size) least (place + count) → size ≡ room → count ≡ room
    → IsFirstStep xs from (place + room) least (place + room)
first-next xs from place size room count least prefix back s e =
    subst (λ n. IsFirstStep xs from (place + room) least (place + n)) e
    (subst (λ n. IsFirstStep xs from (place + n) least (place + count)) s (first-behind xs from place (place + size) least (place + count) prefix back))

-- the counts from one place up to another, and from there up to a third
pub count-join : (least : ℕ) (xs : List ℕ) (i j k : ℕ) → i ≤ j → j ≤ k → count_reaching least (slice_range xs i j) + count_reaching least (slice_range xs j k) ≡ count_reaching least (slice_range xs i k)
count-join least xs i j k a b = omega (arith, count-range least xs i j a, count-range least xs j k b, count-range least xs i k (omega (arith, a, b)))

-- nothing more is kept where there is nothing more
pub keep-none : (old : List ℕ) → KeepsLongest old [] old
keep-none old least = omega (arith, count-most least old)

-- a longer step takes the place of the least that is kept
pub keep-longer : (least room i step rest all : ℕ) (kept : List ℕ) → length kept ≡ room → i < length kept → ((j : ℕ) → j < length kept → get_or kept i 0 ≤ get_or kept j 0) → get_or kept i 0 < step
    → min room (count_reaching least kept + (cond {A = ℕ} (leb least step) 1 0 + rest)) ≡ all → min room (count_reaching least (set kept i step) + rest) ≡ all
keep-longer least room i step rest all kept size inside low longer before =
    let lowest : ℕ = get_or kept i 0 in
    let swapped = sum_by-set (λ n. cond {A = ℕ} (leb least n) 1 0) kept i step 0 inside in
    elim (cases_lt lowest least) [
      | inl above ↦ let none : cond {A = ℕ} (leb least lowest) 1 0 ≡ 0 = ap (λ b. cond {A = ℕ} b 1 0) (lt-leb _ _ above) in omega (arith, before, swapped, none)
      | inr below ↦
          let every : count_reaching least kept ≡ length kept = count-all least kept (λ j lt. let here = low j lt in omega (arith, below, here)) in
          let one : cond {A = ℕ} (leb least lowest) 1 0 ≡ 1 = ap (λ b. cond {A = ℕ} b 1 0) (le-leb _ _ below) in
          let two : cond {A = ℕ} (leb least step) 1 0 ≡ 1 = ap (λ b. cond {A = ℕ} b 1 0) (le-leb _ _ (omega (arith, below, longer))) in
          omega (arith, before, swapped, every, one, two, size)
    ]

-- a step that is no longer than the least is not kept
pub keep-shorter : (least room i step rest all : ℕ) (kept : List ℕ) → length kept ≡ room → ((j : ℕ) → j < length kept → get_or kept i 0 ≤ get_or kept j 0) → step ≤ get_or kept i 0
    → min room (count_reaching least kept + (cond {A = ℕ} (leb least step) 1 0 + rest)) ≡ all → min room (count_reaching least kept + rest) ≡ all
keep-shorter least room i step rest all kept size low shorter before =
    elim (cases_lt step least) [
      | inl above ↦ let none : cond {A = ℕ} (leb least step) 1 0 ≡ 0 = ap (λ b. cond {A = ℕ} b 1 0) (lt-leb _ _ above) in omega (arith, before, none)
      | inr below ↦
          let every : count_reaching least kept ≡ length kept = count-all least kept (λ j lt. let here = low j lt in omega (arith, below, here, shorter)) in
          omega (arith, before, every, size)
    ]

-- the next value's step, and those of the values behind it
pub count-next : (least past index : ℕ) (values : List ℕ) → index < length values
    → count_reaching least (steps_from past (drop index values)) ≡ cond {A = ℕ} (leb least (get_or values index 0 + 1 - past)) 1 0 + count_reaching least (steps_from (get_or values index 0 + 1) (drop (index + 1) values))
count-next least past index values lt =
    let value : ℕ = get_or values index 0 in
    ap (λ vs. count_reaching least (steps_from past vs)) (drop_more values index 0 lt) ∙ count-cons least (value + 1 - past) (steps_from (value + 1) (drop (index + 1) values))

-- what is kept after one more block of numbers
pub count-more : (xs : List ℕ) (from place size room : ℕ) (old kept new : List ℕ) → from ≤ place → size ≡ room → length kept ≡ length old → KeepsLongest old (slice_range xs from place) kept
    → KeepsLongest kept (slice_range xs place (place + size)) new → KeepsLongest old (slice_range xs from (place + room)) new
count-more xs from place size room old kept new le same kept_room before more least =
    omega (arith, before least, more least, kept_room, count-join least xs from place (place + room) le (omega arith), ap (λ n. count_reaching least (slice_range xs place (place + n))) same)

-- what is kept after one more part of numbers, of those that are taken
pub keep-part : (taken : ℕ → List ℕ) (n : ℕ) (old kept new : List ℕ) → length kept ≡ length old → KeepsLongest old (flat_map taken (range_with_len 0 n)) kept → KeepsLongest kept (taken n) new
    → KeepsLongest old (flat_map taken (range_with_len 0 (n + 1))) new
keep-part taken n old kept new room before more least =
    let next : range_with_len 0 (n + 1) ≡ range_with_len 0 n ++ n ∷ [] = sym (map-id (range_with_len 0 (n + 1))) ∙ map-range_with_len_more (λ x. x) 0 n n (omega arith) ∙ ap (λ ns. ns ++ n ∷ []) (map-id (range_with_len 0 n)) in
    let all : flat_map taken (range_with_len 0 (n + 1)) ≡ flat_map taken (range_with_len 0 n) ++ taken n = ap (flat_map taken) next ∙ sym (flat_map_more taken [] (range_with_len 0 n) n) in
    omega (arith, before least, more least, room, ap (count_reaching least) all, sum_by-append (λ x. cond {A = ℕ} (leb least x) 1 0) (flat_map taken (range_with_len 0 n)) (taken n))

-- whether the steps of a part are long, by what is told of it
same-test : (xs : List ℕ) (i j from to u all m : ℕ) → from ≡ i → to ≡ j → u ≡ universe xs i j → all ≡ past xs (length xs) → m ≡ length xs
    → leb (2 * all * (to - from)) (u * m) ≡ leb (2 * past xs (length xs) * (j - i)) (universe xs i j * length xs)
same-test xs i j from to u all m a b d e f = cc

-- the steps of a part are taken where they are long
pub long-taken : (xs : List ℕ) (i j from to u all m : ℕ) → from ≡ i → to ≡ j → u ≡ universe xs i j → all ≡ past xs (length xs) → m ≡ length xs → 2 * all * (to - from) ≤ u * m
    → steps_if_long xs i j ≡ slice_range (steps_from 0 xs) i j
long-taken xs i j from to u all m a b d e f long =
    ap (λ (t : Bool). if t then slice_range (steps_from 0 xs) i j else []) (sym (same-test xs i j from to u all m a b d e f) ∙ le-leb _ _ long)

-- and passed over where they are not
pub short-passed : (xs : List ℕ) (i j from to u all m : ℕ) → from ≡ i → to ≡ j → u ≡ universe xs i j → all ≡ past xs (length xs) → m ≡ length xs → u * m < 2 * all * (to - from)
    → steps_if_long xs i j ≡ []
short-passed xs i j from to u all m a b d e f short =
    ap (λ (t : Bool). if t then slice_range (steps_from 0 xs) i j else []) (sym (same-test xs i j from to u all m a b d e f) ∙ lt-leb _ _ short)
