-- Numbers that are read some at once, and the gaps between them.
use Rattle.std.proofs.Common.{◌≡◌, ◌≢◌, ℕ, zero, suc, true, false, refl, eqb, ◌+◌, ◌-◌, ◌/◌, ◌%◌, ◌^◌, ◌≤◌, ◌<◌, List, length, set, inl, inr, sym, ap, ◌∙◌, subst, arith}
use Rattle.std.specs.Prelude.{slice_index}
use Rattle.std.specs.List.Sorted.{IsStrictlyIncreasing}
use Rattle.std.proofs.lemmas.Bool.{cases_lt, eq-eqb, eqb-true, false≢true}
use Rattle.std.proofs.lemmas.List.{get_or-set_other, get_or-set_same, length-set}
use Rattle.collection_model.specs.NextBelow.{AreNextBelow}
use Rattle.std.specs.Int.{w64, bit_at, trailing_ones, trailing_zeros}
use Rattle.std.proofs.lemmas.Nat.Bits.{bit_at_above, bit_at_ones, bit_at-trailing_ones, bit_at-trailing_zeros}
use Rattle.std.proofs.lemmas.Nat.{pow_pos, shr-shr, shr_le}
use Rattle.std.proofs.Math.Pow.{pow_mono, shr_lt}
use Rattle.collection_model.specs.Marks.{has_number}
use Rattle.collection_model.proofs.Marks.{has-at, place-of}
use Rattle.part_cost.proofs.Numbers.{rises}
use Rattle.part_cost.specs.Span.{AreRelative}
use Rattle.part_codec.specs.declared.views.PartView.{PartView}
use Rattle.part_codec.specs.PartView.{Holds, universe_of, count_of}
use Rattle.part_codec.proofs.Relative.{relative-held}
use Rattle.index_file.specs.declared.run.Run.{Run}
use Rattle.index_file.specs.Gaps.{place_in, AreHere, AreMarked, AreSmall, FollowOn, IsAtGap, IsOn, ShowsNext}
use Rattle.index_file.proofs.ListStarts.{below-universe}

-- they rise as all do
pub here-rise : (all numbers : List ℕ) (run : Run) → IsStrictlyIncreasing all → AreHere all numbers run → (j : ℕ) → j + 1 < run.count → slice_index numbers j < slice_index numbers (j + 1)
here-rise all numbers run rising h j lt =
    let next : slice_index all (run.first + (j + 1)) ≡ slice_index all (run.first + j + 1) = ap (slice_index all) (let e : run.first + (j + 1) ≡ run.first + j + 1 = omega arith in e) in
    omega (arith, h.same j (omega (arith, lt)), h.same (j + 1) lt, next, rising (run.first + j) (omega (arith, lt, h.inside)))

-- where nothing is told
pub none-told : (marks place : ℕ) (all : List ℕ) → marks ≡ 0 → AreMarked marks place all
none-told marks place all none i le = absurd (omega (arith, le, none, pow_pos i))

-- the next numbers are read
pub here-read : (all new : List ℕ) (u m first count : ℕ) → AreRelative u m all → u < 2 ^ 63 → first + 1 < m → 2 ≤ length new → AreNextBelow all first 18446744073709551615 new count
    → (2 ≤ count) × ((run : Run) → run.first ≡ first → run.at ≡ 0 → run.count ≡ count → run.marks ≡ 0 → AreHere all new run)
here-read all new u m first count r small more room h =
    let some : 2 ≤ count = elim (cases_lt 1 count) as (λ _. 2 ≤ count) [
      | inl lt ↦ omega (arith, lt)
      | inr le ↦
          let within : first + count < length all = omega (arith, le, more, r.count) in
          absurd (omega (arith, small, below-universe u m all r (first + count) within, h.full (omega (arith, le, room)) within))
    ] in (
      some,
      λ run is_first is_at is_count none.
          record {
            within = omega (arith, is_at, is_count, some);
            room = omega (arith, is_count, h.room);
            inside = omega (arith, is_first, is_count, h.within);
            same = λ j lt. h.same j (omega (arith, lt, is_count)) ∙ ap (λ f. slice_index all (f + j)) (sym is_first);
            marked = none-told run.marks _ all none;
            not_all = omega (arith, none);
          },
    )

-- the numbers up to the next gap
pub here-on : (all numbers : List ℕ) (run on : Run) (at : ℕ) → AreHere all numbers run → on.first ≡ run.first → on.at ≡ at → on.count ≡ run.count → on.marks ≡ run.marks → at < run.count → AreHere all numbers on
here-on all numbers run on at h first is count marks lt = record {
  within = omega (arith, is, count, lt);
  room = omega (arith, count, h.room);
  inside = omega (arith, first, count, h.inside);
  same = λ j less. h.same j (omega (arith, less, count)) ∙ ap (λ f. slice_index all (f + j)) (sym first);
  marked = subst (λ m. AreMarked m (slice_index numbers (on.count - 1)) all) (sym marks) (subst (λ k. AreMarked run.marks (slice_index numbers (k - 1)) all) (sym count) h.marked);
  not_all = omega (arith, marks, h.not_all);
}

-- follow on among all
pub follow-here : (all numbers : List ℕ) (run : Run) (at : ℕ) → AreHere all numbers run → at < run.count → ((j : ℕ) → run.at ≤ j → j < at → slice_index numbers (j + 1) ≡ slice_index numbers j + 1)
    → FollowOn all (place_in run) (run.first + at)
follow-here all numbers run at h lt each t from to =
    let j : ℕ = t - run.first in
    let is : run.first + j ≡ t = omega (arith, from) in
    let next : run.first + (j + 1) ≡ t + 1 = omega (arith, from) in
    let step : slice_index numbers (j + 1) ≡ slice_index numbers j + 1 = each j (omega (arith, from)) (omega (arith, from, to)) in
    ap (slice_index all) (sym next) ∙ sym (h.same (j + 1) (omega (arith, from, to, lt))) ∙ step ∙ ap (λ n. n + 1) (h.same j (omega (arith, from, to, lt)) ∙ ap (slice_index all) is)

pub follow-both : (all : List ℕ) (from middle to : ℕ) → FollowOn all from middle → FollowOn all middle to → FollowOn all from to
follow-both all from middle to a b t ge lt = elim (cases_lt t middle) [
  | inl less ↦ a t ge less
  | inr past ↦ b t past lt
]

-- and the gap is one among all
pub gap-here : (all numbers : List ℕ) (run : Run) → AreHere all numbers run → run.at + 1 < run.count → slice_index numbers (run.at + 1) ≢ slice_index numbers run.at + 1
    → slice_index all (place_in run + 1) ≢ slice_index all (place_in run) + 1
gap-here all numbers run h lt gap e =
    let next : run.first + (run.at + 1) ≡ run.first + run.at + 1 = omega arith in
    gap (h.same (run.at + 1) lt ∙ ap (slice_index all) next ∙ e ∙ ap (λ n. n + 1) (sym (h.same run.at h.within)))

-- the number that is looked at is no farther than the last
pub here-within : (part : PartView) (ys numbers : List ℕ) (run : Run) (last : ℕ) → Holds part ys → AreHere ys numbers run → last + 1 ≡ count_of part → place_in run ≤ last
here-within part ys numbers run last held h e = omega (arith, h.within, h.inside, (relative-held part ys held).count, e)

-- from the number that was looked at on up to the next gap, or to the last that was read
pub goes-on : (ys numbers : List ℕ) (from : ℕ) (was run on : Run) (at : ℕ) → from ≤ place_in was → FollowOn ys from (place_in was) → place_in run ≡ place_in was → AreHere ys numbers run → run.at ≤ at → at < run.count
    → ((j : ℕ) → run.at ≤ j → j < at → slice_index numbers (j + 1) ≡ slice_index numbers j + 1) → on.first ≡ run.first → on.at ≡ at → on.count ≡ run.count → on.marks ≡ run.marks → IsOn ys numbers from on
goes-on ys numbers from was run on at before followed same h le lt each first is count marks = record {
  here = here-on ys numbers run on at h first is count marks lt;
  later = omega (arith, before, same, le, first, is);
  follow = subst (FollowOn ys from) (let e : run.first + at ≡ place_in on = omega (arith, first, is) in e)
      (follow-both ys from (place_in run) (run.first + at) (subst (FollowOn ys from) (sym same) followed) (follow-here ys numbers run at h lt each));
}

-- one number
pub here-one : (all numbers : List ℕ) (t : ℕ) → t < length all → 1 ≤ length numbers → slice_index numbers 0 ≡ slice_index all t → AreHere all numbers (record { first = t; at = 0; count = 1; marks = 0 })
here-one all numbers t some room same = record {
  within = omega arith;
  room = omega (arith, room);
  inside = omega (arith, some);
  same = λ j lt.
      let at : slice_index numbers j ≡ slice_index numbers 0 = ap (slice_index numbers) (let e : j ≡ 0 = omega (arith, lt) in e) in
      at ∙ same ∙ ap (slice_index all) (let e : t ≡ t + j = omega (arith, lt) in e);
  marked = none-told 0 _ all refl;
  not_all = omega arith;
}

-- the first number, where it is 0
pub here-start : (all numbers : List ℕ) → 1 ≤ length all → slice_index all 0 ≡ 0 → 1 ≤ length numbers → slice_index numbers 0 ≡ 0 → AreHere all numbers (record { first = 0; at = 0; count = 1; marks = 0 })
here-start all numbers some none room first = here-one all numbers 0 (omega (arith, some)) room (first ∙ sym none)

-- the number behind the one that is looked at
pub here-next : (all numbers : List ℕ) (run : Run) (t : ℕ) → AreHere all numbers run → place_in run ≡ t → run.at + 1 < run.count → slice_index numbers (run.at + 1) ≡ slice_index all (t + 1)
here-next all numbers run t h is lt = h.same (run.at + 1) lt ∙ ap (slice_index all) (let e : run.first + (run.at + 1) ≡ t + 1 = omega (arith, is) in e)

-- ---- numbers that marks tell

-- so many follow one of them
pub follows : (ys : List ℕ) → IsStrictlyIncreasing ys → (k number n : ℕ) → k < length ys → slice_index ys k ≡ number → ((i : ℕ) → 1 ≤ i → i ≤ n → has_number (number + i) ys ≡ true) → (k + n < length ys) × (slice_index ys (k + n) ≡ number + n)
follows ys rising k number zero lt is has = (omega (arith, lt), ap (slice_index ys) (let e : k + 0 ≡ k = omega arith in e) ∙ is ∙ (let e : number ≡ number + 0 = omega arith in e))
follows ys rising k number (suc n) lt is has =
    let before = follows ys rising k number n lt is (λ i ge le. has i ge (omega (arith, le))) in
    let at = place-of (number + suc n) ys (has (suc n) (omega arith) (omega arith)) in
    let next : k + suc n ≡ k + n + 1 = omega arith in
    elim (cases_lt at.0 (k + n + 1)) as (λ _. (k + suc n < length ys) × (slice_index ys (k + suc n) ≡ number + suc n)) [
      | inl early ↦ absurd (omega (arith, rises ys rising at.0 (k + n) (omega (arith, early)) before.0, at.2, before.1))
      | inr late ↦ (
        omega (arith, late, at.1),
        ap (slice_index ys) next ∙ (let e : slice_index ys (k + n + 1) ≡ number + suc n =
            omega (arith, rises ys rising (k + n + 1) at.0 late at.1, rises ys rising (k + n) (k + n + 1) (omega arith) (omega (arith, late, at.1)), at.2, before.1, late) in e),
      )
    ]

-- so they follow on
pub follow-on : (ys : List ℕ) → IsStrictlyIncreasing ys → (k number n : ℕ) → k < length ys → slice_index ys k ≡ number → ((i : ℕ) → 1 ≤ i → i ≤ n → has_number (number + i) ys ≡ true) → FollowOn ys k (k + n)
follow-on ys rising k number n lt is has t from to =
    let j : ℕ = t - k in
    let this : k + j ≡ t = omega (arith, from) in
    let next : k + (j + 1) ≡ t + 1 = omega (arith, from) in
    let a = follows ys rising k number j lt is (λ i ge le. has i ge (omega (arith, le, from, to))) in
    let b = follows ys rising k number (j + 1) lt is (λ i ge le. has i ge (omega (arith, le, from, to))) in
    omega (arith, a.1, b.1, ap (slice_index ys) this, ap (slice_index ys) next)

-- the number that is looked at is small
pub here-small : (part : PartView) (ys numbers : List ℕ) (run : Run) → Holds part ys → AreHere ys numbers run → universe_of part < 2 ^ 63 → slice_index numbers run.at < 2 ^ 63
here-small part ys numbers run held h small =
    omega (arith, small, h.same run.at h.within, below-universe (universe_of part) (count_of part) ys (relative-held part ys held) (place_in run) (omega (arith, h.within, h.inside)))

-- ---- numbers that a word of marks shows

-- a word of marks that begins with those of a number and of some that follow it, then none, and then that of another
pub record ShowsGap (marks follow zeros : ℕ) : Type 0 where
  pub some : 1 ≤ follow
  pub ones : (i : ℕ) → i < follow → bit_at marks i ≡ 1
  pub none : (i : ℕ) → i < zeros → bit_at marks (follow + i) ≡ 0
  pub apart : 1 ≤ zeros
  pub within : follow + zeros < 64
  pub next : bit_at marks (follow + zeros) ≡ 1

pub shows-gap : (marks : ℕ) → marks + 1 < 2 ^ 64 → bit_at marks 0 ≡ 1 → marks / 2 ^ trailing_ones w64 marks ≢ 0
    → ShowsGap marks (trailing_ones w64 marks) (trailing_zeros w64 (marks / 2 ^ trailing_ones w64 marks))
shows-gap marks narrow first behind = record {
  some = some;
  ones = low.2;
  none = λ i lt. sym (bit i) ∙ high.2 i lt;
  apart = apart;
  within = within;
  next = next;
}
  where
    follow : ℕ
    follow = trailing_ones w64 marks

    rest : ℕ
    rest = marks / 2 ^ follow

    zeros : ℕ
    zeros = trailing_zeros w64 rest

    low : (follow < 64) × (bit_at marks follow ≡ 0) × ((i : ℕ) → i < follow → bit_at marks i ≡ 1)
    low = bit_at-trailing_ones w64 marks narrow

    high : (zeros < 64) × (bit_at rest zeros ≡ 1) × ((i : ℕ) → i < zeros → bit_at rest i ≡ 0)
    high = bit_at-trailing_zeros w64 rest (omega (arith, behind)) (omega (arith, shr_le marks follow, narrow))

    bit : (i : ℕ) → bit_at rest i ≡ bit_at marks (follow + i)
    bit i = ap (λ n. n % 2) (shr-shr marks follow i)

    next : bit_at marks (follow + zeros) ≡ 1
    next = sym (bit zeros) ∙ high.1

    some : 1 ≤ follow
    some = elim (cases_lt 0 follow) as (λ _. 1 ≤ follow) [
      | inl lt ↦ omega (arith, lt)
      | inr le ↦ (let e : bit_at marks follow ≡ bit_at marks 0 = ap (bit_at marks) (let e : follow ≡ 0 = omega (arith, le) in e) in absurd (omega (arith, e, low.1, first)))
    ]

    apart : 1 ≤ zeros
    apart = elim (cases_lt 0 zeros) as (λ _. 1 ≤ zeros) [
      | inl lt ↦ omega (arith, lt)
      | inr le ↦ (let e : bit_at marks (follow + zeros) ≡ bit_at marks follow = ap (bit_at marks) (let e : follow + zeros ≡ follow = omega (arith, le) in e) in absurd (omega (arith, e, low.1, next)))
    ]

    within : follow + zeros < 64
    within = elim (cases_lt (follow + zeros) 64) as (λ _. follow + zeros < 64) [
      | inl lt ↦ lt
      | inr le ↦ absurd (omega (arith, next, bit_at_above marks 64 (follow + zeros) (omega (arith, narrow)) le))
    ]

-- what marks show of a place below one that they show
below-told : (marks j : ℕ) → bit_at marks j ≡ 1 → (i : ℕ) → i ≤ j → 2 ^ i ≤ marks
below-told marks j one i le = elim (cases_lt marks (2 ^ i)) as (λ _. 2 ^ i ≤ marks) [
  | inl lt ↦ absurd (omega (arith, one, bit_at_above marks i j lt le))
  | inr ge ↦ ge
]

-- and the marks behind that place
behind-told : (marks place by : ℕ) (all : List ℕ) → AreMarked marks place all → AreMarked (marks / 2 ^ by) (place + by) all
behind-told marks place by all told i le = elim (cases_lt marks (2 ^ (i + by))) as (λ _. has_number (place + by + i) all ≡ eqb (bit_at (marks / 2 ^ by) i) 1) [
  | inl lt ↦ absurd (omega (arith, le, shr_lt i by lt))
  | inr ge ↦
      let at : place + by + i ≡ place + (by + i) = omega arith in
      let both : i + by ≡ by + i = omega arith in
      ap (λ n. has_number n all) at ∙ told (by + i) (subst (λ k. 2 ^ k ≤ marks) both ge) ∙ ap (λ m. eqb (m % 2) 1) (sym (shr-shr marks by i))
]

-- so the first gap behind a number is seen
pub gap-at : (ys numbers : List ℕ) (run : Run) (marks follow zeros : ℕ) → IsStrictlyIncreasing ys → AreHere ys numbers run → AreMarked marks (slice_index numbers run.at) ys → marks < 2 ^ 64 - 1
    → ShowsGap marks follow zeros → (place_in run + follow < length ys) × (slice_index ys (place_in run + follow) ≡ slice_index numbers run.at + follow + zeros)
    × ((new : List ℕ) → 2 ≤ length new → slice_index new 0 ≡ slice_index numbers run.at + follow - 1 → slice_index new 1 ≡ slice_index numbers run.at + follow + zeros
    → IsAtGap ys new (place_in run) (record { first = place_in run + (follow - 1); at = 0; count = 2; marks = marks / 2 ^ follow / 2 ^ zeros }))
gap-at ys numbers run marks follow zeros rising h told narrow shown = (
  inside,
  behind,
  λ new room first second. record {
    here = record {
      within = omega arith;
      room = omega (arith, room);
      inside = omega (arith, inside, shown.some);
      same = same new first second;
      marked = marked new second;
      not_all = omega (arith, narrow, shr_le marks follow, shr_le (marks / 2 ^ follow) zeros);
    };
    later = omega arith;
    follow = subst (FollowOn ys k) (let e : k + (follow - 1) ≡ k + (follow - 1) + 0 = omega arith in e) (follow-on ys rising k number (follow - 1) lt is has);
    gap = λ more. (
      omega arith,
      λ e. omega (
        arith,
        e,
        ap (slice_index ys) (let e : k + (follow - 1) + 0 + 1 ≡ k + follow = omega (arith, shown.some) in e),
        ap (slice_index ys) (let e : k + (follow - 1) + 0 ≡ k + (follow - 1) = omega arith in e),
        behind,
        last.1,
        shown.some,
        shown.apart,
      ),
    );
  },
)
  where
    number : ℕ
    number = slice_index numbers run.at

    k : ℕ
    k = place_in run

    lt : k < length ys
    lt = omega (arith, h.within, h.inside)

    is : slice_index ys k ≡ number
    is = sym (h.same run.at h.within)

    has-one : (i : ℕ) → bit_at marks i ≡ 1 → has_number (number + i) ys ≡ true
    has-one i one = told i (below-told marks i one i (omega arith)) ∙ eq-eqb (bit_at marks i) 1 one

    has : (i : ℕ) → 1 ≤ i → i ≤ follow - 1 → has_number (number + i) ys ≡ true
    has i ge le = has-one i (shown.ones i (omega (arith, ge, le)))

    -- the number before the gap
    last : (k + (follow - 1) < length ys) × (slice_index ys (k + (follow - 1)) ≡ number + (follow - 1))
    last = follows ys rising k number (follow - 1) lt is has

    -- and the one behind it
    at : (j : ℕ) × (j < length ys) × (slice_index ys j ≡ number + (follow + zeros))
    at = place-of (number + (follow + zeros)) ys (has-one (follow + zeros) shown.next)

    later : k + follow ≤ at.0
    later = elim (cases_lt at.0 (k + follow)) as (λ _. k + follow ≤ at.0) [
      | inl early ↦ absurd (omega (arith, rises ys rising at.0 (k + (follow - 1)) (omega (arith, early)) last.0, at.2, last.1, shown.some))
      | inr late ↦ late
    ]

    inside : k + follow < length ys
    inside = omega (arith, later, at.1)

    above : number + follow ≤ slice_index ys (k + follow)
    above = omega (arith, rises ys rising (k + (follow - 1)) (k + follow) (omega arith) inside, last.1, shown.some)

    most : slice_index ys (k + follow) ≤ number + (follow + zeros)
    most = omega (arith, rises ys rising (k + follow) at.0 later at.1, at.2)

    behind : slice_index ys (k + follow) ≡ number + follow + zeros
    behind = elim (cases_lt (slice_index ys (k + follow)) (number + (follow + zeros))) as (λ _. slice_index ys (k + follow) ≡ number + follow + zeros) [
      | inl less ↦
          let d : ℕ = slice_index ys (k + follow) - (number + follow) in
          let there : slice_index ys (k + follow) ≡ number + (follow + d) = omega (arith, above) in
          let small : d < zeros = omega (arith, less, above) in
          let zero : bit_at marks (follow + d) ≡ 0 = shown.none d small in
          let not : has_number (number + (follow + d)) ys ≡ false = told (follow + d) (below-told marks (follow + zeros) shown.next (follow + d) (omega (arith, small))) ∙ ap (λ b. eqb b 1) zero in
          absurd (false≢true (sym not ∙ has-at (number + (follow + d)) ys (k + follow) inside there))
      | inr ge ↦ omega (arith, ge, most)
    ]

    same : (new : List ℕ) → slice_index new 0 ≡ number + follow - 1 → slice_index new 1 ≡ number + follow + zeros → (j : ℕ) → j < 2 → slice_index new j ≡ slice_index ys (k + (follow - 1) + j)
    same new first second zero lt = first ∙ (let e : number + follow - 1 ≡ number + (follow - 1) = omega (arith, shown.some) in e) ∙ sym last.1 ∙ ap (slice_index ys) (let e : k + (follow - 1) ≡ k + (follow - 1) + 0 = omega arith in e)
    same new first second (suc zero) lt = second ∙ sym behind ∙ ap (slice_index ys) (let e : k + follow ≡ k + (follow - 1) + 1 = omega (arith, shown.some) in e)
    same new first second (suc (suc j)) lt = absurd (omega (arith, lt))

    marked : (new : List ℕ) → slice_index new 1 ≡ number + follow + zeros → AreMarked (marks / 2 ^ follow / 2 ^ zeros) (slice_index new 1) ys
    marked new second = subst (λ n. AreMarked (marks / 2 ^ follow / 2 ^ zeros) n ys) (sym second) (behind-told (marks / 2 ^ follow) (number + follow) zeros ys (behind-told marks number follow ys told))

-- what marks say of a number
pub record NearGap (ys numbers : List ℕ) (run : Run) (marks follow zeros : ℕ) : Type 0 where
  pub some : 1 ≤ follow
  pub inside : place_in run + follow < length ys
  pub behind : slice_index ys (place_in run + follow) ≡ slice_index numbers run.at + follow + zeros
  pub gap : (new : List ℕ) → 2 ≤ length new → slice_index new 0 ≡ slice_index numbers run.at + follow - 1 → slice_index new 1 ≡ slice_index numbers run.at + follow + zeros
      → IsAtGap ys new (place_in run) (record { first = place_in run + (follow - 1); at = 0; count = 2; marks = marks / 2 ^ follow / 2 ^ zeros })

-- the marks that are kept begin at the number that is looked at, where it is the last
pub marked-at : (ys numbers : List ℕ) (run : Run) → AreHere ys numbers run → run.at + 1 ≡ run.count → AreMarked run.marks (slice_index numbers run.at) ys
marked-at ys numbers run h last = subst (λ k. AreMarked run.marks (slice_index numbers k) ys) (let e : run.count - 1 ≡ run.at = omega (arith, last) in e) h.marked

-- its own mark is the first
own-mark : (ys numbers : List ℕ) (run : Run) → AreHere ys numbers run → run.at + 1 ≡ run.count → run.marks ≢ 0 → bit_at run.marks 0 ≡ 1
own-mark ys numbers run h last some =
    let within : place_in run < length ys = omega (arith, h.within, h.inside) in
    let own : has_number (slice_index numbers run.at + 0) ys ≡ true = has-at (slice_index numbers run.at + 0) ys (place_in run) within (omega (arith, h.same run.at h.within)) in
    eqb-true (bit_at run.marks 0) 1 (sym (marked-at ys numbers run h last 0 (omega (arith, some))) ∙ own)

-- so that where none are its lowest, nothing is told
pub none-lowest : (ys numbers : List ℕ) (run : Run) → AreHere ys numbers run → trailing_ones w64 run.marks ≡ 0 → ¬ ShowsNext run
none-lowest ys numbers run h none shows =
    let some : run.marks ≢ 0 = λ e. shows.1 (omega (arith, e, shr_le run.marks (trailing_ones w64 run.marks))) in
    let low = bit_at-trailing_ones w64 run.marks (omega (arith, h.not_all)) in
    omega (arith, own-mark ys numbers run h shows.0 some, low.1, ap (bit_at run.marks) none)

pub near-shown : (ys numbers : List ℕ) (run : Run) (follow zeros : ℕ) → IsStrictlyIncreasing ys → AreHere ys numbers run → run.at + 1 ≡ run.count
    → run.marks / 2 ^ follow ≢ 0 → follow ≡ trailing_ones w64 run.marks → zeros ≡ trailing_zeros w64 (run.marks / 2 ^ follow) → NearGap ys numbers run run.marks follow zeros
near-shown ys numbers run follow zeros rising h last behind follow_is zeros_is =
    let marks : ℕ = run.marks in
    let some : marks ≢ 0 = λ none. behind (let e : marks / 2 ^ follow ≡ 0 = omega (arith, none, shr_le marks follow) in e) in
    let rest : marks / 2 ^ trailing_ones w64 marks ≡ marks / 2 ^ follow = ap (λ k. marks / 2 ^ k) (sym follow_is) in
    let shown : ShowsGap marks follow zeros = subst (λ k. ShowsGap marks k zeros) (sym follow_is) (subst (ShowsGap marks (trailing_ones w64 marks)) (ap (trailing_zeros w64) rest ∙ sym zeros_is)
    (shows-gap marks (omega (arith, h.not_all)) (own-mark ys numbers run h last some) (λ none. behind (sym rest ∙ none)))) in
    let at = gap-at ys numbers run marks follow zeros rising h (marked-at ys numbers run h last) h.not_all shown in
    record {
      some = shown.some;
      inside = at.0;
      behind = at.1;
      gap = λ new room first second. at.2 new room first second;
    }

-- two numbers that are written
pub two-set : (numbers : List ℕ) (a b : ℕ) → 2 ≤ length numbers → (2 ≤ length (set (set numbers 0 a) 1 b)) × (slice_index (set (set numbers 0 a) 1 b) 0 ≡ a) × (slice_index (set (set numbers 0 a) 1 b) 1 ≡ b)
two-set numbers a b room = (
  omega (arith, room, length-set (set numbers 0 a) 1 b, length-set numbers 0 a),
  get_or-set_other (set numbers 0 a) 1 0 b 0 (λ e. omega (arith, e)) ∙ get_or-set_same numbers 0 a 0 (omega (arith, room)),
  get_or-set_same (set numbers 0 a) 1 b 0 (omega (arith, room, length-set numbers 0 a)),
)

-- passed twice
pub on-both : (ys numbers new : List ℕ) (from : ℕ) (run on : Run) → IsOn ys numbers from run → IsOn ys new (place_in run) on → IsOn ys new from on
on-both ys numbers new from run on a b = record {
  here = b.here;
  later = omega (arith, a.later, b.later);
  follow = follow-both ys from (place_in run) (place_in on) a.follow b.follow;
}

-- numbers that follow on are passed
pub passed-on : (ys numbers new : List ℕ) (run : Run) (count : ℕ) → IsStrictlyIncreasing ys → AreHere ys numbers run → ((i : ℕ) → 1 ≤ i → i ≤ count → has_number (slice_index numbers run.at + i) ys ≡ true)
    → (place_in run + count < length ys) × (slice_index ys (place_in run + count) ≡ slice_index numbers run.at + count)
    × (1 ≤ length new → slice_index new 0 ≡ slice_index numbers run.at + count → IsOn ys new (place_in run) (record { first = run.first + run.at + count; at = 0; count = 1; marks = 0 }))
passed-on ys numbers new run count rising h has =
    let lt : place_in run < length ys = omega (arith, h.within, h.inside) in
    let is : slice_index ys (place_in run) ≡ slice_index numbers run.at = sym (h.same run.at h.within) in
    let far = follows ys rising (place_in run) (slice_index numbers run.at) count lt is has in (
      far.0,
      far.1,
      λ room number. record {
        here = here-one ys new (run.first + run.at + count) far.0 room (number ∙ sym far.1);
        later = omega arith;
        follow = subst (FollowOn ys (place_in run)) (let e : place_in run + count ≡ run.first + run.at + count + 0 = omega arith in e)
            (follow-on ys rising (place_in run) (slice_index numbers run.at) count lt is has);
      },
    )

-- a word of marks that is full tells of 63 that follow
pub full-tells : (ys : List ℕ) (number marks : ℕ) → (marks ≢ 0 → (i : ℕ) → i < 64 → has_number (number + i) ys ≡ eqb (bit_at marks i) 1) → marks ≡ 2 ^ 64 - 1 → (i : ℕ) → 1 ≤ i → i ≤ 63 → has_number (number + i) ys ≡ true
full-tells ys number marks told full i ge le =
    told (λ none. omega (arith, none, full)) i (omega (arith, le)) ∙ eq-eqb (bit_at marks i) 1 (ap (λ w. bit_at w i) full ∙ bit_at_ones 64 i (omega (arith, le)))

-- and other marks of as many as their lowest ones
pub ones-tell : (ys : List ℕ) (number marks follow : ℕ) → AreMarked marks number ys → marks < 2 ^ 64 - 1 → follow ≡ trailing_ones w64 marks → (i : ℕ) → 1 ≤ i → i ≤ follow - 1 → has_number (number + i) ys ≡ true
ones-tell ys number marks follow told narrow follow_is i ge le =
    let low = bit_at-trailing_ones w64 marks (omega (arith, narrow)) in
    let one : bit_at marks i ≡ 1 = low.2 i (omega (arith, le, ge, follow_is)) in
    told i (below-told marks i one i (omega arith)) ∙ eq-eqb (bit_at marks i) 1 one

-- a word of marks that is not full is kept
pub word-marked : (ys : List ℕ) (number marks : ℕ) → (marks ≢ 0 → (i : ℕ) → i < 64 → has_number (number + i) ys ≡ eqb (bit_at marks i) 1) → marks < 2 ^ 64 → AreMarked marks number ys
word-marked ys number marks told narrow i le = elim (cases_lt i 64) as (λ _. has_number (number + i) ys ≡ eqb (bit_at marks i) 1) [
  | inl lt ↦ told (λ none. omega (arith, none, le, pow_pos i)) i lt
  | inr ge ↦ absurd (omega (arith, le, narrow, pow_mono {i = 64} {j = i} ge))
]

-- the marks from the number that is looked at on are kept, where it is the last
pub here-marked : (ys numbers : List ℕ) (run on : Run) → AreHere ys numbers run → run.at + 1 ≡ run.count → on.first ≡ run.first → on.at ≡ run.at → on.count ≡ run.count → AreMarked on.marks (slice_index numbers run.at) ys → on.marks < 2 ^ 64 - 1
    → AreHere ys numbers on
here-marked ys numbers run on h last first at count told narrow = record {
  within = omega (arith, at, count, last);
  room = omega (arith, count, h.room);
  inside = omega (arith, first, count, h.inside);
  same = λ j less. h.same j (omega (arith, less, count)) ∙ ap (λ f. slice_index ys (f + j)) (sym first);
  marked = subst (λ k. AreMarked on.marks (slice_index numbers k) ys) (let e : run.at ≡ on.count - 1 = omega (arith, last, count) in e) told;
  not_all = narrow;
}

-- the numbers of a part are small
pub part-small : (part : PartView) (ys : List ℕ) → Holds part ys → universe_of part < 2 ^ 63 → count_of part ≤ 2 ^ 32 → AreSmall ys
part-small part ys held small few =
    let r = relative-held part ys held in
    record {
      rising = r.rising;
      small = λ j lt. omega (arith, small, below-universe (universe_of part) (count_of part) ys r j lt);
      few = omega (arith, few, r.count);
    }

-- a number and the next one, which is read
pub here-two : (ys numbers new : List ℕ) (run : Run) → AreHere ys numbers run → run.count ≡ 1 → place_in run + 1 < length ys → 2 ≤ length new → slice_index new 0 ≡ slice_index numbers 0 → slice_index new 1 ≡ slice_index ys (place_in run + 1)
    → AreHere ys new (record { first = run.first + run.at; at = 0; count = 2; marks = 0 })
here-two ys numbers new run h one more room first second = record {
  within = omega arith;
  room = omega (arith, room);
  inside = omega (arith, more);
  same = at;
  marked = none-told 0 _ ys refl;
  not_all = omega arith;
}
  where
    at : (j : ℕ) → j < 2 → slice_index new j ≡ slice_index ys (run.first + run.at + j)
    at zero lt = first ∙ h.same 0 (omega (arith, one)) ∙ ap (slice_index ys) (let e : run.first + 0 ≡ run.first + run.at + 0 = omega (arith, one, h.within) in e)
    at (suc zero) lt = second
    at (suc (suc j)) lt = absurd (omega (arith, lt))

-- one number that is written
pub one-set : (numbers : List ℕ) (a : ℕ) → 2 ≤ length numbers → (1 ≤ length (set numbers 0 a)) × (slice_index (set numbers 0 a) 0 ≡ a)
one-set numbers a room = (omega (arith, room, length-set numbers 0 a), get_or-set_same numbers 0 a 0 (omega (arith, room)))
