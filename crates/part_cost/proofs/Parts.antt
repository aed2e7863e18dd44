use Rattle.std.proofs.Common.{◌≡◌, refl, sym, subst, ap, ◌∙◌, ℕ, zero, suc, ◌+◌, ◌-◌, ◌^◌, ◌<◌, ◌≤◌, List, length, get_or, drop, add-one, arith}
use Rattle.std.specs.Prelude.{slice_index, slice_range}
use Rattle.std.specs.List.{All, range_with_len}
use Rattle.std.proofs.lemmas.List.{length-take-le, length-drop, length-map, get_or-take, get_or-drop, get_or-map}
use Rattle.std.proofs.lemmas.List.Elements.{All-get_or}
use Rattle.std.proofs.lemmas.List.FromFn.{length-range_with_len, get_or-range_with_len}
use Rattle.std.specs.List.Sorted.{IsStrictlyIncreasing}
use Rattle.part_cost.specs.Payload.{payload, widest_low}
use Rattle.part_cost.specs.Span.{past, universe, relative_values, AreRelative}
use Rattle.part_cost.specs.Laws.{PayloadsGrow, CostsGrow, PartsGrow, SingleIsAllowed, PartHasRoom, PartIsWithin, PartIsRelative}
use Rattle.part_cost.proofs.Numbers.{rising-range}
use Rattle.part_cost.proofs.Growth.{payload-grows, one-number-is-short}

-- where a place is not the first, its part begins one past the number before
pub past-at : (xs : List ℕ) (j : ℕ) → 0 < j → past xs j ≡ slice_index xs (j - 1) + 1
past-at xs zero h = absurd (omega arith)
past-at xs (suc k) h =
    let place : k ≡ suc k - 1 = omega arith in
    ap (λ x. slice_index xs x + 1) place

-- the next place begins at least one further
past-next : (xs : List ℕ) → IsStrictlyIncreasing xs → (i : ℕ) → i < length xs → past xs i + 1 ≤ past xs (suc i)
past-next xs up zero h = omega arith
past-next xs up (suc i) h = omega (arith, up i (omega arith), ap (λ k. slice_index xs k) (add-one i))

-- and a place that lies d places on at least d further
past-rises : (xs : List ℕ) → IsStrictlyIncreasing xs → (i j d : ℕ) → j ≡ i + d → j ≤ length xs → past xs i + d ≤ past xs j
past-rises xs up i j zero e h =
    let same : j ≡ i = omega arith in
    subst (λ x. past xs i + 0 ≤ past xs x) (sym same) (omega arith)
past-rises xs up i j (suc d) e h =
    let next : j ≡ suc (i + d) = omega arith in
    let so_far = past-rises xs up i (i + d) d refl (omega arith) in
    let last = past-next xs up (i + d) (omega arith) in
    subst (λ x. past xs i + suc d ≤ past xs x) (sym next) (omega (arith, so_far, last))

-- a part begins no later than its first number
pub past-number : (xs : List ℕ) → IsStrictlyIncreasing xs → (k : ℕ) → k < length xs → past xs k ≤ slice_index xs k
past-number xs up k lt = omega (arith, past-next xs up k lt)

pub rises : (xs : List ℕ) → IsStrictlyIncreasing xs → (i j : ℕ) → i ≤ j → j ≤ length xs → past xs i + (j - i) ≤ past xs j
rises xs up i j h fit = past-rises xs up i j (j - i) (omega arith) fit

pub has-room : PartHasRoom
has-room xs up i j h fit = omega (arith, rises xs up i j (omega arith) fit)

payloads-grow : (xs : List ℕ) → IsStrictlyIncreasing xs → PayloadsGrow xs
payloads-grow xs up h i j k hi ij jk fit =
    let prefix = rises xs up h i hi (omega arith) in
    let middle = rises xs up i j (omega arith) (omega arith) in
    let back = rises xs up j k jk fit in
    payload-grows (universe xs i j) (j - i) (universe xs h k) (k - h) (omega (arith, middle)) (omega arith) (omega (arith, prefix, middle, back))

pub costs-grow : (charge : ℕ) (xs : List ℕ) → IsStrictlyIncreasing xs → CostsGrow charge xs
costs-grow charge xs up h i j k hi ij jk fit = omega (arith, payloads-grow xs up h i j k hi ij jk fit)

pub parts-grow : PartsGrow
parts-grow xs up = (payloads-grow xs up, λ charge. costs-grow charge xs up)

-- no place begins past the bound
past-within : (bound : ℕ) (xs : List ℕ) → All (λ x. x < bound) xs → (j : ℕ) → j ≤ length xs → past xs j ≤ bound
past-within bound xs below zero h = omega arith
past-within bound xs below (suc j) h = omega (arith, All-get_or (λ x. x < bound) xs j 0 (omega arith) below)

pub is-within : PartIsWithin
is-within bound xs below i j h fit = omega (arith, past-within bound xs below j fit)

-- how many numbers a part has, and which
pub part-length : (xs : List ℕ) (i j : ℕ) → i < j → j ≤ length xs → length (slice_range xs i j) ≡ j - i
part-length xs i j h fit = length-take-le (j - i) (drop i xs) (omega (arith, length-drop i xs))

part-at : (xs : List ℕ) (i j k : ℕ) → k < j - i → get_or (slice_range xs i j) k 0 ≡ get_or xs (i + k) 0
part-at xs i j k h = get_or-take (j - i) (drop i xs) k 0 h ∙ get_or-drop i xs k 0

relative-length : (xs : List ℕ) (i j : ℕ) → i < j → j ≤ length xs → length (relative_values xs i j) ≡ j - i
relative-length xs i j h fit = length-map (slice_range xs i j) (λ x. x - past xs i) ∙ part-length xs i j h fit

relative-at : (xs : List ℕ) (i j k : ℕ) → i < j → j ≤ length xs → k < j - i → slice_index (relative_values xs i j) k ≡ slice_index xs (i + k) - past xs i
relative-at xs i j k h fit lt =
    get_or-map (λ x. x - past xs i) (slice_range xs i j) k 0 0 (omega (arith, part-length xs i j h fit)) ∙ ap (λ x. x - past xs i) (part-at xs i j k lt)

relative-rise : (xs : List ℕ) → IsStrictlyIncreasing xs → (i j : ℕ) → i < j → j ≤ length xs → IsStrictlyIncreasing (relative_values xs i j)
relative-rise xs up i j h fit k lt =
    let many = relative-length xs i j h fit in
    let here = relative-at xs i j k h fit (omega arith) in
    let there = relative-at xs i j (k + 1) h fit (omega arith) in
    let place : i + (k + 1) ≡ i + k + 1 = omega arith in
    let low = rises xs up i (suc (i + k)) (omega arith) (omega arith) in
    let high = up (i + k) (omega arith) in
    omega (arith, here, there, ap (slice_index xs) place, low, high)

pub is-relative : PartIsRelative
is-relative xs up i j h fit = record {
  rising = relative-rise xs up i j h fit;
  count = relative-length xs i j h fit;
  some = omega arith;
  last =
      let here = relative-at xs i j (j - i - 1) h fit (omega arith) in
      let place : i + (j - i - 1) ≡ j - 1 = omega arith in
      omega (arith, here, ap (slice_index xs) place, past-at xs j (omega arith), rises xs up i j (omega arith) fit);
}

pub single-is-allowed : SingleIsAllowed
single-is-allowed charge limit room xs up below i h =
    let fit = has-room xs up i (i + 1) (omega arith) (omega arith) in
    let within = is-within (2 ^ widest_low) xs below i (i + 1) (omega arith) (omega arith) in
    let one : 1 ≡ i + 1 - i = omega arith in
    let short = one-number-is-short widest_low (universe xs i (i + 1)) (omega arith) (omega (arith, fit)) within in
    omega (arith, room, short, ap (payload (universe xs i (i + 1))) one)

-- rising numbers are the relative values of a part whose universe ends with the last
pub relative-past : (ys : List ℕ) → IsStrictlyIncreasing ys → 0 < length ys → AreRelative (past ys (length ys)) (length ys) ys
relative-past ys up some = record { rising = up; count = refl; some = some; last = sym (past-at ys (length ys) some) }

-- and of no part with another universe
pub past-is : (u : ℕ) (ys : List ℕ) → AreRelative u (length ys) ys → past ys (length ys) ≡ u
past-is u ys h = past-at ys (length ys) h.some ∙ h.last

-- all numbers below a universe are the relative values of a part with no free place
pub relative-range : (u : ℕ) → 1 ≤ u → AreRelative u u (range_with_len 0 u)
relative-range u some = record {
  rising = rising-range u;
  count = length-range_with_len 0 u;
  some = some;
  last = omega (arith, some, get_or-range_with_len 0 u (u - 1) 0 (omega (arith, some)));
}
