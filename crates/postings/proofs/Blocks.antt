-- Lemmas on sums that are read in blocks.
use Rattle.std.proofs.Common.{◌≡◌, refl, sym, ap, ◌∙◌, inl, inr, ℕ, suc, ◌+◌, ◌-◌, ◌*◌, ◌^◌, ◌<◌, ◌≤◌, List, length, set, get_or, arith}
use Rattle.std.specs.Prelude.{slice_index}
use Rattle.std.proofs.lemmas.Bool.{cases_lt}
use Rattle.std.proofs.lemmas.Grind.{get_or-set_at}
use Rattle.std.proofs.lemmas.List.{get_or-set_other, length-set}
use Rattle.collection_model.specs.NextBelow.{AreNextBelow}
use Rattle.collection_model.specs.Sequences.{steps_from, postings_in}
use Rattle.part_cost.specs.Span.{past}
use Rattle.cursor_api.specs.NextGeq.{IsCursorList}
use Rattle.postings.specs.Blocks.{AreSumsFrom}
use Rattle.postings.proofs.Steps.{IsStepAt, past-few, step-read}
use Rattle.postings.proofs.Lists.{cursor-few, cursor-not_zero, cursor-fit}

-- where all numbers lie below the bound and enough are left, as many are given as have room
pub all-given : (numbers given : List ℕ) (from x count : ℕ) → AreNextBelow numbers from x given count → from + length given ≤ length numbers
    → ((k : ℕ) → k < length numbers → slice_index numbers k < x) → count ≡ length given
all-given numbers given from x count is left small =
    elim (cases_lt count (length given)) as (λ _. count ≡ length given) [
      | inl less ↦ (let more : from + count < length numbers = omega (arith, less, left) in
          let high : x ≤ slice_index numbers (from + count) = is.full less more in
          let low : slice_index numbers (from + count) < x = small (from + count) more in
          absurd (omega arith))
      | inr other ↦ omega (arith, is.room, other)
    ]

-- the sums of a cursor lie below the greatest number of 64 bits
pub sums-small : (docs sums : List ℕ) → length docs ≡ length sums → IsCursorList (postings_in docs sums) → (k : ℕ) → k < length sums → slice_index sums k < 18446744073709551615
sums-small docs sums same list k within =
    let most : get_or sums k 0 + 1 ≤ suc k * 4294967295 = past-few sums (suc k) (cursor-fit docs sums same list) within in
    omega (arith, cursor-few docs sums same list, most)

-- sums from a place on, so many of which are turned into their steps
pub record AreTurned (sums freqs : List ℕ) (from count behind : ℕ) : Type 0 where
  pub done : (i : ℕ) → i < count → slice_index freqs i ≡ slice_index (steps_from 0 sums) (from + i)
  pub ahead : (i : ℕ) → count ≤ i → i < length freqs → slice_index freqs i ≡ slice_index sums (from + i)
  pub before : behind ≡ past sums (from + count)

pub none-turned : (all sums : List ℕ) (from past_it : ℕ) → AreSumsFrom all from sums past_it → AreTurned all sums from 0 past_it
none-turned all sums from past_it is = record {
  done = λ i lt. absurd (omega arith);
  ahead = λ i after lt. is.same i lt;
  before = is.before ∙ ap (past all) (let e : from ≡ from + 0 = omega arith in e);
}

-- the sum at a place to be turned
pub sum-turned : (all sums freqs : List ℕ) (from count first behind : ℕ) → AreSumsFrom all from sums first → AreTurned all freqs from count behind → length freqs ≡ length sums → count < length freqs
    → IsStepAt all (from + count) (get_or freqs count 0) behind × (get_or freqs count 0 + 1 < 2 ^ 64)
sum-turned all sums freqs from count first behind are is same within =
    let left : from + length sums ≤ length all = are.within in
    let few : length all < 4294967296 = are.few in
    let step = step-read all (from + count) (get_or freqs count 0) behind (omega arith) are.not_zero are.fit (is.ahead count (omega arith) within) is.before in
    let most : get_or freqs count 0 + 1 ≤ suc (from + count) * 4294967295 = step.few in
    (step, (let e : get_or freqs count 0 + 1 < 18446744073709551616 = omega arith in e))

-- one more
pub one-turned : (all sums freqs : List ℕ) (from count first behind : ℕ) → AreSumsFrom all from sums first → AreTurned all freqs from count behind → length freqs ≡ length sums → count < length freqs
    → AreTurned all (set freqs count (get_or freqs count 0 + 1 - behind)) from (count + 1) (get_or freqs count 0 + 1)
one-turned all sums freqs from count first behind are is same within =
    let new : ℕ = get_or freqs count 0 + 1 - behind in
    let here : get_or freqs count 0 ≡ get_or all (from + count) 0 = is.ahead count (omega arith) within in
    let step = (sum-turned all sums freqs from count first behind are is same within).0 in
    record {
      done =
          λ i lt.
          elim (cases_lt i count) as (λ _. slice_index (set freqs count new) i ≡ slice_index (steps_from 0 all) (from + i)) [
            | inl earlier ↦ get_or-set_other freqs count i new 0 (λ e. omega (arith, e, earlier)) ∙ is.done i earlier
            | inr later ↦ (let e : i ≡ count = omega (arith, lt, later) in
                get_or-set_at freqs count i new 0 e within ∙ sym step.is ∙ ap (λ k. get_or (steps_from 0 all) (from + k) 0) (sym e))
          ];
      ahead = λ i after lt. get_or-set_other freqs count i new 0 (λ e. omega (arith, e, after)) ∙ is.ahead i (omega arith) (omega (arith, length-set freqs count new));
      before = ap (λ v. v + 1) here ∙ ap (past all) (let e : suc (from + count) ≡ from + (count + 1) = omega arith in e);
    }

-- what a cursor reads of its sums are the next ones
pub sums-read : (docs all given : List ℕ) (from x count past_it : ℕ) → length docs ≡ length all → IsCursorList (postings_in docs all) → AreNextBelow all from x given count → count ≡ length given
    → past_it ≡ past all from → AreSumsFrom all from given past_it
sums-read docs all given from x count past_it same list is whole here = record {
  within = omega (arith, is.within, whole);
  same = λ j lt. is.same j (omega (arith, lt, whole));
  before = here;
  few = omega (arith, cursor-few docs all same list, same);
  not_zero = cursor-not_zero docs all same list;
  fit = cursor-fit docs all same list;
}

-- sums from a place on, where the steps of so many behind the first stand before their sums
pub record AreTurnedLater (sums freqs : List ℕ) (from count behind : ℕ) : Type 0 where
  pub done : (i : ℕ) → i < count → slice_index freqs i ≡ slice_index (steps_from 0 sums) (from + 1 + i)
  pub ahead : (i : ℕ) → count ≤ i → i < length freqs → slice_index freqs i ≡ slice_index sums (from + i)
  pub before : behind ≡ past sums (from + count + 1)

pub none-later : (all sums : List ℕ) (from past_it : ℕ) → AreSumsFrom all from sums past_it → 0 < length sums → AreTurnedLater all sums from 0 (get_or sums 0 0 + 1)
none-later all sums from past_it is some = record {
  done = λ i lt. absurd (omega arith);
  ahead = λ i after lt. is.same i lt;
  before = ap (λ v. v + 1) (is.same 0 some) ∙ ap (past all) (let e : suc (from + 0) ≡ from + 0 + 1 = omega arith in e);
}

-- the sum to be turned next
pub sum-later : (all sums freqs : List ℕ) (from count first behind : ℕ) → AreSumsFrom all from sums first → AreTurnedLater all freqs from count behind → length freqs ≡ length sums → count + 1 < length freqs
    → IsStepAt all (from + count + 1) (get_or freqs (count + 1) 0) behind × (get_or freqs (count + 1) 0 + 1 < 2 ^ 64)
sum-later all sums freqs from count first behind are is same within =
    let left : from + length sums ≤ length all = are.within in
    let few : length all < 4294967296 = are.few in
    let here : get_or freqs (count + 1) 0 ≡ get_or all (from + count + 1) 0 = is.ahead (count + 1) (omega arith) within ∙ ap (λ k. get_or all k 0) (let e : from + (count + 1) ≡ from + count + 1 = omega arith in e) in
    let step = step-read all (from + count + 1) (get_or freqs (count + 1) 0) behind (omega arith) are.not_zero are.fit here is.before in
    let most : get_or freqs (count + 1) 0 + 1 ≤ suc (from + count + 1) * 4294967295 = step.few in
    (step, (let e : get_or freqs (count + 1) 0 + 1 < 18446744073709551616 = omega arith in e))

-- one more
pub one-later : (all sums freqs : List ℕ) (from count first behind : ℕ) → AreSumsFrom all from sums first → AreTurnedLater all freqs from count behind → length freqs ≡ length sums → count + 1 < length freqs
    → AreTurnedLater all (set freqs count (get_or freqs (count + 1) 0 + 1 - behind)) from (count + 1) (get_or freqs (count + 1) 0 + 1)
one-later all sums freqs from count first behind are is same within =
    let new : ℕ = get_or freqs (count + 1) 0 + 1 - behind in
    let here : get_or freqs (count + 1) 0 ≡ get_or all (from + (count + 1)) 0 = is.ahead (count + 1) (omega arith) within in
    let step = (sum-later all sums freqs from count first behind are is same within).0 in
    record {
      done =
          λ i lt.
          elim (cases_lt i count) as (λ _. slice_index (set freqs count new) i ≡ slice_index (steps_from 0 all) (from + 1 + i)) [
            | inl earlier ↦ get_or-set_other freqs count i new 0 (λ e. omega (arith, e, earlier)) ∙ is.done i earlier
            | inr later ↦ (let e : i ≡ count = omega (arith, lt, later) in
                let k : from + count + 1 ≡ from + 1 + i = omega (arith, e) in
                get_or-set_at freqs count i new 0 e (omega (arith, within)) ∙ sym step.is ∙ ap (λ k. get_or (steps_from 0 all) k 0) k)
          ];
      ahead = λ i after lt. get_or-set_other freqs count i new 0 (λ e. omega (arith, e, after)) ∙ is.ahead i (omega arith) (omega (arith, length-set freqs count new));
      before = ap (λ v. v + 1) here ∙ ap (past all) (let e : suc (from + (count + 1)) ≡ from + (count + 1) + 1 = omega arith in e);
    }

-- one more than the sum at a place less the frequency there is one more than the sum before
pub past-before : (docs all : List ℕ) (k behind freq : ℕ) → length docs ≡ length all → IsCursorList (postings_in docs all) → k < length all → behind ≡ past all (k + 1)
    → freq ≡ slice_index (steps_from 0 all) k → (freq ≤ behind) × (behind - freq ≡ past all k)
past-before docs all k behind freq same list within is step =
    let read = step-read all k (get_or all k 0) (past all k) within (cursor-not_zero docs all same list) (cursor-fit docs all same list) refl refl in
    let here : behind ≡ get_or all k 0 + 1 = is ∙ ap (past all) (let e : k + 1 ≡ suc k = omega arith in e) in
    (omega (arith, here, step, read.is), omega (arith, here, step, read.is, read.forward))

-- the first of some sums fits
pub sum-small : (all sums : List ℕ) (from past_it : ℕ) → AreSumsFrom all from sums past_it → 0 < length sums → get_or sums 0 0 + 1 < 2 ^ 64
sum-small all sums from past_it are some =
    let left : from + length sums ≤ length all = are.within in
    let few : length all < 4294967296 = are.few in
    let most : get_or all (from + 0) 0 + 1 ≤ suc (from + 0) * 4294967295 = past-few all (suc (from + 0)) are.fit (omega arith) in
    let e : get_or sums 0 0 + 1 < 18446744073709551616 = omega (arith, are.same 0 some, most) in e

-- where so many frequencies were read, up to the last of them
pub last-read : (docs all freqs : List ℕ) (from n behind k : ℕ) → length docs ≡ length all → IsCursorList (postings_in docs all) → 0 < n → from + n ≤ length all → behind ≡ past all (from + n)
    → slice_index freqs k ≡ slice_index (steps_from 0 all) (from + n - 1) → (slice_index freqs k ≤ behind) × (behind - slice_index freqs k ≡ past all (from + n - 1))
last-read docs all freqs from n behind k same list some within is step =
    past-before docs all (from + n - 1) behind (slice_index freqs k) same list (omega (arith, some, within))
    (is ∙ ap (past all) (let e : from + n ≡ from + n - 1 + 1 = omega (arith, some) in e)) step
