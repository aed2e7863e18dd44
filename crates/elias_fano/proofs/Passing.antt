use Rattle.std.proofs.Common.{◌≡◌, ℕ, zero, suc, ◌+◌, ◌-◌, ◌*◌, ◌/◌, ◌^◌, ◌<◌, ◌≤◌, List, length, take, drop, get_or, sum, sym, ap, ◌∙◌, subst, arith, add-one, inl, inr}
use Rattle.std.specs.List.Sorted.{IsStrictlyIncreasing}
use Rattle.std.proofs.lemmas.Bool.{cases_lt}
use Rattle.std.proofs.lemmas.Nat.{pow_pos, le-div}
use Rattle.bit_words.specs.Bits.{bits_of, ones_between, IsFirstOne, HasNoOne}
use Rattle.bit_words.proofs.Value.{EachBit, bits-bits_of}
use Rattle.bit_words.proofs.Ranges.{bit-below, field-one, ones_between-more}
use Rattle.part_cost.specs.Span.{AreRelative}
use Rattle.elias_fano.specs.declared.EfView.{EfView}
use Rattle.elias_fano.specs.EfBits.{high_place}
use Rattle.elias_fano.specs.EfPlaces.{low_fields_at, past_place, IsPast, AreBelow}
use Rattle.elias_fano.specs.EfView.{Holds}
use Rattle.elias_fano.proofs.Rising.{place-within, places-rise, before-past, past-before}
use Rattle.elias_fano.proofs.Reading.{IsRead}
use Rattle.elias_fano.proofs.Views.{view-read-at}

-- so many ones take as many places
pub past-count : (l : ℕ) (ys : List ℕ) (k : ℕ) → k ≤ past_place l ys k
past-count l ys zero = omega arith
past-count l ys (suc k) = omega arith

-- a place without a one is passed
pub past-zero : (bits : List ℕ) (place u m l q : ℕ) (ys : List ℕ) → IsRead bits place u m l q ys → (k p : ℕ) → IsPast place m l ys k p → get_or bits p 0 ≡ 0
    → IsPast place m l ys k (p + 1)
past-zero bits place u m l q ys h k p here unset = record {
  few = here.few;
  past = omega (arith, here.past);
  not_past = λ lt.
      elim (cases_lt p (place + high_place l k (get_or ys k 0))) [
        | inl less ↦ omega arith
        | inr more ↦
            let up = here.not_past lt in
            let same : place + high_place l k (get_or ys k 0) ≡ p = omega arith in
            absurd (omega (arith, unset, h.one k lt, ap (λ n. get_or bits n 0) same))
      ];
}

-- a one is that of the next number
past-one : (bits : List ℕ) (place u m l q : ℕ) (ys : List ℕ) → IsRead bits place u m l q ys → (k p : ℕ) → IsPast place m l ys k p → p < place + (m + (u - 1) / 2 ^ l)
    → get_or bits p 0 ≡ 1 → IsPast place m l ys (k + 1) (p + 1)
past-one bits place u m l q ys h k p here lt set =
    let count : length ys ≡ m = h.values.count in
    let i : ℕ = p - place in
    let at : p ≡ place + i = omega (arith, here.past) in
    let found = h.only i (omega arith) (ap (λ n. get_or bits n 0) (sym at) ∙ set) in
    let same : found.0 ≡ k =
    elim (cases_lt found.0 k) [
      | inl less ↦ absurd (omega (arith, before-past ys l h.values.rising found.0 k less (omega (arith, here.few)), found.2, here.past))
      | inr more ↦ elim (cases_lt k found.0) [
        | inl less ↦ absurd (omega (arith, places-rise ys l h.values.rising k found.0 more (omega (arith, found.1)), found.2, here.not_past (omega (arith, found.1))))
        | inr other ↦ omega arith
      ]
    ] in
    let own : high_place l k (get_or ys k 0) ≡ i = ap (λ n. high_place l n (get_or ys n 0)) (sym same) ∙ found.2 in
    record {
      few = omega (arith, found.1);
      past = omega (arith, ap (λ n. past_place l ys n) (add-one k));
      not_past = λ next. omega (arith, places-rise ys l h.values.rising k (k + 1) (omega arith) (omega arith));
    }

past-step : (bits : List ℕ) (place u m l q : ℕ) (ys : List ℕ) → EachBit bits → IsRead bits place u m l q ys → (k p : ℕ) → IsPast place m l ys k p → p < place + (m + (u - 1) / 2 ^ l)
    → IsPast place m l ys (k + get_or bits p 0) (p + 1)
past-step bits place u m l q ys each h k p here lt =
    elim (cases_lt (get_or bits p 0) 1) [
      | inl less ↦
          subst (λ n. IsPast place m l ys n (p + 1)) (let e : k ≡ k + get_or bits p 0 = omega arith in e) (past-zero bits place u m l q ys h k p here (omega arith))
      | inr more ↦
          let set : get_or bits p 0 ≡ 1 = omega (arith, bit-below bits p each) in
          subst (λ n. IsPast place m l ys n (p + 1)) (let e : k + 1 ≡ k + get_or bits p 0 = omega arith in e) (past-one bits place u m l q ys h k p here lt set)
    ]

no-ones : (bits : List ℕ) (p : ℕ) → ones_between bits p (p + 0) ≡ 0
no-ones bits p = ap (λ n. sum (take n (drop p bits))) (let e : p + 0 - p ≡ 0 = omega arith in e)

-- from a place past k numbers on, as many more are passed as ones are counted
pub past-more : (bits : List ℕ) (place u m l q : ℕ) (ys : List ℕ) → EachBit bits → IsRead bits place u m l q ys → place + (m + (u - 1) / 2 ^ l) ≤ length bits
    → (k p d : ℕ) → IsPast place m l ys k p → p + d ≤ place + (m + (u - 1) / 2 ^ l) → IsPast place m l ys (k + ones_between bits p (p + d)) (p + d)
past-more bits place u m l q ys each h room k p zero here fit =
    subst (λ n. IsPast place m l ys n (p + 0)) (let e : k ≡ k + ones_between bits p (p + 0) = omega (arith, no-ones bits p) in e)
    (subst (λ n. IsPast place m l ys k n) (let e : p ≡ p + 0 = omega arith in e) here)
past-more bits place u m l q ys each h room k p (suc d) here fit =
    let before = past-more bits place u m l q ys each h room k p d here (omega arith) in
    let step = past-step bits place u m l q ys each h (k + ones_between bits p (p + d)) (p + d) before (omega arith) in
    let more : ones_between bits p (p + d + 1) ≡ ones_between bits p (p + d) + get_or bits (p + d) 0 =
    ones_between-more bits p (p + d) (omega arith) (omega arith) ∙ ap (λ n. ones_between bits p (p + d) + n) (field-one bits (p + d)) in
    let whole : IsPast place m l ys (k + ones_between bits p (p + d + 1)) (p + d + 1) =
    subst (λ n. IsPast place m l ys n (p + d + 1)) (let e : k + ones_between bits p (p + d) + get_or bits (p + d) 0 ≡ k + ones_between bits p (p + d + 1) = omega arith in e) step in
    subst (λ n. IsPast place m l ys (k + ones_between bits p n) n) (let e : p + d + 1 ≡ p + suc d = omega arith in e) whole

-- where less than so many zeros stand before a place, each number passed has a lesser high part
pub past-below : (place m l : ℕ) (ys : List ℕ) → IsStrictlyIncreasing ys → length ys ≡ m → (k at high j : ℕ) → IsPast place m l ys k at → at - place - k < high → j < k
    → get_or ys j 0 < high * 2 ^ l
past-below place m l ys up count zero at high j here few lt = absurd (omega arith)
past-below place m l ys up count (suc k) at high j here few lt =
    let rise = places-rise ys l up j k (omega arith) (omega (arith, here.few)) in
    let below : get_or ys j 0 / 2 ^ l < high = omega (arith, here.past) in
    elim (cases_lt (get_or ys j 0) (high * 2 ^ l)) [
      | inl less ↦ less
      | inr more ↦ absurd (omega (arith, le-div high (get_or ys j 0) (2 ^ l) (pow_pos l) more))
    ]

-- behind its own one a number is passed
pub past-number : (place m l : ℕ) (ys : List ℕ) → IsStrictlyIncreasing ys → length ys ≡ m → (k one : ℕ) → k < m → one ≡ place + high_place l k (get_or ys k 0)
    → IsPast place m l ys (k + 1) (one + 1)
past-number place m l ys up count k one lt is = record {
  few = omega arith;
  past = omega (arith, ap (λ n. past_place l ys n) (add-one k));
  not_past = λ next. omega (arith, places-rise ys l up k (k + 1) (omega arith) (omega arith));
}

pub passed-below : (place m l : ℕ) (ys : List ℕ) → IsStrictlyIncreasing ys → length ys ≡ m → (from k at high : ℕ) → IsPast place m l ys k at
    → (from < k → at - place - k < high) → AreBelow ys from k (high * 2 ^ l)
passed-below place m l ys up count from k at high here few j after lt = past-below place m l ys up count k at high j here (few (omega arith)) lt

-- numbers below one that is not past the last are not all
pub not-all-below : (u m : ℕ) (ys : List ℕ) → AreRelative u m ys → (from k x : ℕ) → from < m → k ≤ m → x < u → AreBelow ys from k x → k < m
not-all-below u m ys h from k x lt few reached below =
    elim (cases_lt k m) [
      | inl less ↦ less
      | inr more ↦ absurd (omega (arith, below (m - 1) (omega arith) (omega arith), h.last))
    ]

-- so for the ones of a view, up to the end of its high bits
pub ones-passed : (q : ℕ) (v : EfView q) (ys : List ℕ) → Holds q v ys → (k at end : ℕ) → IsPast v.part.place v.part.m v.low ys k at → at ≤ end
    → end ≤ v.part.place + low_fields_at v.part.u v.part.m v.low → IsPast v.part.place v.part.m v.low ys (k + ones_between (bits_of v.part.bits.words.now) at end) end
ones-passed q v ys h k at end here fit within =
    let ws = v.part.bits.words.now in
    let read = view-read-at q v ys h in
    subst (λ n. IsPast v.part.place v.part.m v.low ys (k + ones_between (bits_of ws) at n) n) (let e : at + (end - at) ≡ end = omega arith in e)
    (past-more (bits_of ws) v.part.place v.part.u v.part.m v.low q ys (bits-bits_of ws) read (omega (arith, read.room)) k at (end - at) here (omega arith))

-- so the first one from there on, up to that end, is that of the next number,
pub first-next : (q : ℕ) (v : EfView q) (ys : List ℕ) → Holds q v ys → (k at p : ℕ) → IsPast v.part.place v.part.m v.low ys k at
    → IsFirstOne (bits_of v.part.bits.words.now) at (v.part.place + low_fields_at v.part.u v.part.m v.low) p → (k < v.part.m) × (p ≡ v.part.place + high_place v.low k (get_or ys k 0))
first-next q v ys h k at p here first =
    let bits : List ℕ = bits_of v.part.bits.words.now in
    let read = view-read-at q v ys h in
    let i : ℕ = p - v.part.place in
    let is : p ≡ v.part.place + i = omega (arith, here.past, first.at_or_after) in
    let found = read.only i (omega (arith, first.before_end)) (ap (λ n. get_or bits n 0) (sym is) ∙ first.one) in
    elim (cases_lt found.0 k) [
      | inl less ↦ absurd (omega (arith, before-past ys v.low h.values.rising found.0 k less (omega (arith, here.few, h.values.count)), found.2, here.past, first.at_or_after))
      | inr more ↦ elim (cases_lt k found.0) [
        | inl less ↦
            let within : k < v.part.m = omega (arith, found.1) in
            let rise = places-rise ys v.low h.values.rising k found.0 (omega arith) (omega (arith, found.1, h.values.count)) in
            let unset = first.first (v.part.place + high_place v.low k (get_or ys k 0)) (here.not_past within) (omega (arith, found.2, rise)) in
            let set = read.one k within in
            absurd (omega arith)
        | inr other ↦
            let same : found.0 ≡ k = omega arith in
            let own : high_place v.low k (get_or ys k 0) ≡ i = ap (λ n. high_place v.low n (get_or ys n 0)) (sym same) ∙ found.2 in
            (omega (arith, found.1), omega arith)
      ]
    ]

pub same-range : {bits bits2 : List ℕ} {at end end2 p : ℕ} → bits ≡ bits2 → end ≡ end2 → IsFirstOne bits at end p → IsFirstOne bits2 at end2 p
same-range {bits2 = bits2} {at = at} {end = end} {p = p} same last first = subst (λ n. IsFirstOne bits2 at n p) last (subst (λ xs. IsFirstOne xs at end p) same first)

pub one-next : (q : ℕ) (v : EfView q) (ys : List ℕ) → Holds q v ys → (k : ℕ) → {bits : List ℕ} {at end p : ℕ} → bits ≡ bits_of v.part.bits.words.now
    → end ≡ v.part.place + low_fields_at v.part.u v.part.m v.low → IsPast v.part.place v.part.m v.low ys k at → IsFirstOne bits at end p → (k < v.part.m) × (p ≡ v.part.place + high_place v.low k (get_or ys k 0))
one-next q v ys h k {at = at} {p = p} same last here first = first-next q v ys h k at p here (same-range same last first)

-- and there is none where all numbers are passed
pub none-next : (q : ℕ) (v : EfView q) (ys : List ℕ) → Holds q v ys → (k : ℕ) → {bits : List ℕ} {at end : ℕ} → bits ≡ bits_of v.part.bits.words.now
    → end ≡ v.part.place + low_fields_at v.part.u v.part.m v.low → IsPast v.part.place v.part.m v.low ys k at → HasNoOne bits at end → k ≡ v.part.m
none-next q v ys h k same last here none =
    elim (cases_lt k v.part.m) [
      | inl less ↦
          let own : ℕ = v.part.place + high_place v.low k (get_or ys k 0) in
          let unset = none own (here.not_past less) (omega (arith, place-within v.part.u v.part.m v.low ys h.values k less, last)) in
          let set = (view-read-at q v ys h).one k less in
          absurd (omega (arith, ap (λ xs. get_or xs own 0) same))
      | inr more ↦ omega (arith, here.few)
    ]

-- right behind the ones of the first k numbers
pub past-exactly : (q : ℕ) (v : EfView q) (ys : List ℕ) → Holds q v ys → (k at : ℕ) → k ≤ v.part.m → at ≡ v.part.place + past_place v.low ys k → IsPast v.part.place v.part.m v.low ys k at
past-exactly q v ys h k at few is = record {
  few = few;
  past = omega arith;
  not_past = λ lt. omega (arith, past-before ys v.low h.values.rising k (omega (arith, h.values.count)));
}
