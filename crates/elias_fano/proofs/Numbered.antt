-- The ones of numbers, found by how many ones or zeros come before them or behind them.
use Rattle.std.proofs.Common.{◌≡◌, ℕ, ◌+◌, ◌-◌, ◌*◌, ◌/◌, ◌^◌, ◌<◌, ◌≤◌, List, length, get_or, ap, ◌∙◌, subst, arith, inl, inr}
use Rattle.std.specs.List.Sorted.{IsStrictlyIncreasing}
use Rattle.std.proofs.lemmas.Bool.{cases_lt}
use Rattle.std.proofs.lemmas.Nat.{pow_pos, le-div}
use Rattle.bit_words.specs.Bits.{bits_of, ones_between, IsFirstOne, IsNthOne, IsNthOneBack, IsNthZero}
use Rattle.part_cost.proofs.Numbers.{rises}
use Rattle.part_cost.proofs.Parts.{past-at}
use Rattle.part_cost.specs.Stored.{IsFirstAtLeast}
use Rattle.elias_fano.specs.declared.EfView.{EfView}
use Rattle.elias_fano.specs.EfBits.{high_place}
use Rattle.elias_fano.specs.EfPlaces.{low_fields_at, past_place, IsPast, AreBelow}
use Rattle.elias_fano.specs.EfView.{Holds}
use Rattle.elias_fano.proofs.Rising.{before-past, last-place, shift-rises}
use Rattle.std.proofs.Math.Nat.{div-mul-le_self, mul-le-mul_right}
use Rattle.elias_fano.proofs.Lookups.{shifted-back, place-below}
use Rattle.elias_fano.proofs.Passing.{past-count, past-zero, past-number, past-exactly, passed-below, not-all-below, ones-passed, first-next}
use Rattle.elias_fano.proofs.Views.{view-read-at}

-- One number of ones is passed up to a place.
pub past-once : (place m l : ℕ) (ys : List ℕ) → IsStrictlyIncreasing ys → length ys ≡ m → (k j at : ℕ) → IsPast place m l ys k at → IsPast place m l ys j at → k ≡ j
past-once place m l ys up count k j at here there =
    elim (cases_lt k j) [
      | inl less ↦ absurd (omega (arith, here.not_past (omega (arith, there.few)), there.past, before-past ys l up k j less (omega (arith, there.few))))
      | inr more ↦ elim (cases_lt j k) [
        | inl less ↦ absurd (omega (arith, there.not_past (omega (arith, here.few)), here.past, before-past ys l up j k less (omega (arith, here.few))))
        | inr same ↦ omega arith
      ]
    ]

-- All numbers are passed up to the end of the high bits.
pub past-all : (q : ℕ) (v : EfView q) (ys : List ℕ) → Holds q v ys → IsPast v.part.place v.part.m v.low ys v.part.m (v.part.place + low_fields_at v.part.u v.part.m v.low)
past-all q v ys h =
    let end : past_place v.low ys v.part.m ≡ v.part.m + (v.part.u - 1) / 2 ^ v.low =
    last-place v.low ys v.part.m h.values.some
    ∙ ap (λ n. v.part.m + (n - 1) / 2 ^ v.low) (past-at ys v.part.m h.values.some ∙ h.values.last) in
    past-exactly q v ys h v.part.m (v.part.place + low_fields_at v.part.u v.part.m v.low) (omega arith) (omega (arith, end))

-- A one behind those of k numbers is that of number k.
pub one-here : (q : ℕ) (v : EfView q) (ys : List ℕ) → Holds q v ys → (k p : ℕ) → IsPast v.part.place v.part.m v.low ys k p → p < v.part.place + low_fields_at v.part.u v.part.m v.low
    → get_or (bits_of v.part.bits.words.now) p 0 ≡ 1 → (k < v.part.m) × (p ≡ v.part.place + high_place v.low k (get_or ys k 0))
one-here q v ys h k p here lt one =
    let first : IsFirstOne (bits_of v.part.bits.words.now) p (v.part.place + low_fields_at v.part.u v.part.m v.low) p = record {
      at_or_after = omega arith;
      before_end = lt;
      one = one;
      first = λ r after before. absurd (omega arith);
    } in
    first-next q v ys h k p p here first

-- The first one from a place on, up to an end among the high bits.
pub one-near : (q : ℕ) (v : EfView q) (ys : List ℕ) → Holds q v ys → (k : ℕ) → {bits : List ℕ} {at end p : ℕ} → bits ≡ bits_of v.part.bits.words.now
    → end ≤ v.part.place + low_fields_at v.part.u v.part.m v.low → IsPast v.part.place v.part.m v.low ys k at → IsFirstOne bits at end p → (k < v.part.m) × (p ≡ v.part.place + high_place v.low k (get_or ys k 0))
one-near q v ys h k {at = at} {end = end} {p = p} same last here first =
    let there : IsFirstOne (bits_of v.part.bits.words.now) at end p = subst (λ xs. IsFirstOne xs at end p) same first in
    let wide : IsFirstOne (bits_of v.part.bits.words.now) at (v.part.place + low_fields_at v.part.u v.part.m v.low) p = record {
      at_or_after = there.at_or_after;
      before_end = omega (arith, there.before_end);
      one = there.one;
      first = there.first;
    } in
    first-next q v ys h k at p here wide

-- The one of number k, by how many ones come before it from a place past so many numbers on.
pub nth-next : (q : ℕ) (v : EfView q) (ys : List ℕ) → Holds q v ys → (passed at end k p : ℕ) → IsPast v.part.place v.part.m v.low ys passed at → passed ≤ k
    → end ≤ v.part.place + low_fields_at v.part.u v.part.m v.low → IsNthOne (bits_of v.part.bits.words.now) at end (k - passed) p
    → p ≡ v.part.place + high_place v.low k (get_or ys k 0)
nth-next q v ys h passed at end k p first ordered fit nth =
    let here = ones-passed q v ys h passed at p first nth.at_or_after (omega (arith, nth.before_end)) in
    let there : IsPast v.part.place v.part.m v.low ys k p =
    subst (λ n. IsPast v.part.place v.part.m v.low ys n p) (let e : passed + ones_between (bits_of v.part.bits.words.now) at p ≡ k = omega (arith, nth.before) in e) here in
    (one-here q v ys h k p there (omega (arith, nth.before_end)) nth.one).1

-- The one of number k, by how many ones stand behind it before a place past more numbers.
pub back-next : (q : ℕ) (v : EfView q) (ys : List ℕ) → Holds q v ys → (passed at more end k p : ℕ) → IsPast v.part.place v.part.m v.low ys passed at → IsPast v.part.place v.part.m v.low ys more end
    → k < more → end ≤ v.part.place + low_fields_at v.part.u v.part.m v.low → IsNthOneBack (bits_of v.part.bits.words.now) at end (more - 1 - k) p
    → p ≡ v.part.place + high_place v.low k (get_or ys k 0)
back-next q v ys h passed at more end k p first last before fit nth =
    let bits : List ℕ = bits_of v.part.bits.words.now in
    let n : ℕ = passed + ones_between bits at p in
    let here = ones-passed q v ys h passed at p first nth.at_or_after (omega (arith, nth.before_end)) in
    let own = one-here q v ys h n p here (omega (arith, nth.before_end)) nth.one in
    let behind = past-number v.part.place v.part.m v.low ys h.values.rising h.values.count n p own.0 own.1 in
    let all = ones-passed q v ys h (n + 1) (p + 1) end behind (omega (arith, nth.before_end)) fit in
    let same = past-once v.part.place v.part.m v.low ys h.values.rising h.values.count (n + 1 + ones_between bits (p + 1) end) more end all last in
    let number : n ≡ k = omega (arith, same, nth.behind) in
    own.1 ∙ ap (λ i. v.part.place + high_place v.low i (get_or ys i 0)) number

-- There are as many ones between as numbers.
pub back-there : (q : ℕ) (v : EfView q) (ys : List ℕ) → Holds q v ys → (passed at more end k : ℕ) → IsPast v.part.place v.part.m v.low ys passed at → IsPast v.part.place v.part.m v.low ys more end
    → passed ≤ k → k < more → at ≤ end → end ≤ v.part.place + low_fields_at v.part.u v.part.m v.low → ones_between (bits_of v.part.bits.words.now) at end ≤ more - 1 - k → ⊥
back-there q v ys h passed at more end k first last ordered before up fit few =
    omega (
      arith,
      few,
      past-once v.part.place v.part.m v.low ys h.values.rising h.values.count (passed + ones_between (bits_of v.part.bits.words.now) at end) more end (ones-passed q v ys h passed at end first up fit) last,
    )

-- A place past fewer numbers lies before one past more.
pub past-ordered : (place m l : ℕ) (ys : List ℕ) → IsStrictlyIncreasing ys → length ys ≡ m → (k j at end : ℕ) → IsPast place m l ys k at → IsPast place m l ys j end → k < j → at ≤ end
past-ordered place m l ys up count k j at end here there less =
    omega (arith, here.not_past (omega (arith, there.few)), there.past, before-past ys l up k j less (omega (arith, there.few)))

-- the numbers that are passed up to a zero, if so many zeros come before it
pub record IsPastZeros (q : ℕ) (v : EfView q) (ys : List ℕ) (high k at : ℕ) : Type 0 where
  pub past : IsPast v.part.place v.part.m v.low ys k at
  pub below : (from : ℕ) → AreBelow ys from k (high * 2 ^ v.low)
  pub zeros : v.part.place + k + high ≤ at

pub zero-passed : (q : ℕ) (v : EfView q) (ys : List ℕ) → Holds q v ys → (passed at end high z : ℕ) → IsPast v.part.place v.part.m v.low ys passed at
    → at - v.part.place - passed < high → end ≤ v.part.place + low_fields_at v.part.u v.part.m v.low
    → IsNthZero (bits_of v.part.bits.words.now) at end (high - (at - v.part.place - passed) - 1) z → IsPastZeros q v ys high (z + 1 - v.part.place - high) (z + 1)
zero-passed q v ys h passed at end high z first few fit nth =
    let bits : List ℕ = bits_of v.part.bits.words.now in
    let place : ℕ = v.part.place in
    let start : place + passed ≤ at = omega (arith, first.past, past-count v.low ys passed) in
    let k : ℕ = z + 1 - place - high in
    let here = ones-passed q v ys h passed at z first nth.at_or_after (omega (arith, nth.before_end)) in
    let is : passed + ones_between bits at z ≡ k = omega (arith, nth.before, start, few) in
    let there : IsPast place v.part.m v.low ys k z = subst (λ n. IsPast place v.part.m v.low ys n z) is here in
    let before : z - place - k < high = omega (arith, nth.before, start, few, is) in
    record {
      past = past-zero bits place v.part.u v.part.m v.low q ys (view-read-at q v ys h) k z there nth.zero;
      below = λ from. passed-below place v.part.m v.low ys h.values.rising h.values.count from k z high there (λ some. before);
      zeros = omega (arith, nth.before, start, few, is);
    }

-- Where fewer zeros come up to an end, all numbers before it have lesser high parts.
pub zero-absent : (q : ℕ) (v : EfView q) (ys : List ℕ) → Holds q v ys → (passed at end high : ℕ) → IsPast v.part.place v.part.m v.low ys passed at
    → at - v.part.place - passed < high → at ≤ end → end ≤ v.part.place + low_fields_at v.part.u v.part.m v.low
    → end ≤ at + ones_between (bits_of v.part.bits.words.now) at end + (high - (at - v.part.place - passed) - 1)
    → (from : ℕ) → AreBelow ys from (passed + ones_between (bits_of v.part.bits.words.now) at end) (high * 2 ^ v.low)
zero-absent q v ys h passed at end high first few up fit none from =
    let k : ℕ = passed + ones_between (bits_of v.part.bits.words.now) at end in
    let start : v.part.place + passed ≤ at = omega (arith, first.past, past-count v.low ys passed) in
    passed-below v.part.place v.part.m v.low ys h.values.rising h.values.count from k end high (ones-passed q v ys h passed at end first up fit) (λ some. omega (arith, none, start, few))

-- There are so many zeros where a number has this high part.
pub zero-there : (q : ℕ) (v : EfView q) (ys : List ℕ) → Holds q v ys → (passed at high : ℕ) → IsPast v.part.place v.part.m v.low ys passed at
    → at - v.part.place - passed < high → at ≤ v.part.place + low_fields_at v.part.u v.part.m v.low → high * 2 ^ v.low < v.part.u
    → v.part.place + low_fields_at v.part.u v.part.m v.low ≤ at + ones_between (bits_of v.part.bits.words.now) at (v.part.place + low_fields_at v.part.u v.part.m v.low) + (high - (at - v.part.place - passed) - 1) → ⊥
zero-there q v ys h passed at high first few up reached none =
    let end : ℕ = v.part.place + low_fields_at v.part.u v.part.m v.low in
    let k : ℕ = passed + ones_between (bits_of v.part.bits.words.now) at end in
    let all = past-once v.part.place v.part.m v.low ys h.values.rising h.values.count k v.part.m end (ones-passed q v ys h passed at end first up (omega arith)) (past-all q v ys h) in
    let below = zero-absent q v ys h passed at end high first few up (omega arith) none 0 in
    omega (arith, all, not-all-below v.part.u v.part.m ys h.values 0 k (high * 2 ^ v.low) h.values.some (omega (arith, all)) reached below)

-- The number at which so many zeros are passed, or a later one, is the first with this high part.
pub zeros-first : (q : ℕ) (v : EfView q) (ys : List ℕ) → Holds q v ys → (from high k at p : ℕ) → k < v.part.m → p < v.part.m → k ≤ p → from ≤ p
    → IsPast v.part.place v.part.m v.low ys k at → v.part.place + k + high ≤ at → AreBelow ys from p (high * 2 ^ v.low) → IsFirstAtLeast ys from (high * 2 ^ v.low) p
zeros-first q v ys h from high k at p some within up after first zeros below =
    let count : length ys ≡ v.part.m = h.values.count in
    let high_of : high ≤ get_or ys k 0 / 2 ^ v.low = omega (arith, first.not_past some) in
    let rise = shift-rises (get_or ys k 0) (get_or ys p 0) v.low (omega (arith, rises ys h.values.rising k p up (omega arith))) in
    record {
      at_or_after = after;
      within = omega arith;
      at_least = shifted-back high (get_or ys p 0) v.low (omega (arith, rise, high_of));
      first = below;
    }

-- A place past some of the numbers lies among the high bits.
pub past-inside : (q : ℕ) (v : EfView q) (ys : List ℕ) → Holds q v ys → (k at : ℕ) → k < v.part.m → IsPast v.part.place v.part.m v.low ys k at
    → at ≤ v.part.place + low_fields_at v.part.u v.part.m v.low
past-inside q v ys h k at lt here = omega (arith, here.not_past lt, place-below q v ys k h lt)

-- The one of the next number lies past the same numbers.
pub past-to-one : (q : ℕ) (v : EfView q) (ys : List ℕ) → Holds q v ys → (k at one : ℕ) → k < v.part.m → IsPast v.part.place v.part.m v.low ys k at
    → one ≡ v.part.place + high_place v.low k (get_or ys k 0) → IsPast v.part.place v.part.m v.low ys k one
past-to-one q v ys h k at one lt here is = record {
  few = here.few;
  past = omega (arith, here.past, here.not_past lt);
  not_past = λ some. omega arith;
}

-- The first number of a run is one of them.
pub run-starts : (q run m : ℕ) → 1 ≤ m → run ≤ (m - 1) / q → q * run < m
run-starts q run m some h = omega (arith, mul-le-mul_right q h, div-mul-le_self (m - 1) q)

-- A place with fewer zeros before it lies among the high bits.
pub place-inside : (q : ℕ) (v : EfView q) (ys : List ℕ) → Holds q v ys → (passed at high : ℕ) → IsPast v.part.place v.part.m v.low ys passed at → at - v.part.place - passed < high
    → high * 2 ^ v.low < v.part.u → at ≤ v.part.place + low_fields_at v.part.u v.part.m v.low
place-inside q v ys h passed at high here few reached =
    let part : high ≤ (v.part.u - 1) / 2 ^ v.low = le-div high (v.part.u - 1) (2 ^ v.low) (pow_pos v.low) (omega arith) in
    omega (arith, part, here.few, here.past, past-count v.low ys passed)
