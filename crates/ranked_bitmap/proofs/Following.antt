-- The numbers that the ones of a range give one after another.
use Rattle.std.proofs.Common.{◌≡◌, ℕ, ◌+◌, ◌-◌, ◌<◌, ◌≤◌, List, length, get_or, ◌∙◌, ap, sym, subst, arith, inl, inr}
use Rattle.std.proofs.lemmas.Bool.{cases_lt}
use Rattle.bit_words.specs.Bits.{bits_of, IsFirstOne, HasNoOne}
use Rattle.part_cost.proofs.Numbers.{rises}
use Rattle.ranked_bitmap.specs.declared.MapView.{MapView}
use Rattle.ranked_bitmap.specs.MapView.{Holds}
use Rattle.ranked_bitmap.proofs.Ones.{AreBelow, below-next}
use Rattle.ranked_bitmap.proofs.OneList.{view-read}
use Rattle.ranked_bitmap.proofs.Reading.{window-at, below-universe}

-- Number r, and the numbers up to and with it.
pub record IsNumber (ys : List ℕ) (r n : ℕ) : Type 0 where
  pub within : r < length ys
  pub is : n ≡ get_or ys r 0
  pub passed : AreBelow ys (n + 1) (r + 1)

-- below a number are those before it
pub below-number : (q : ℕ) (v : MapView q) (ys : List ℕ) → Holds q v ys → (k number : ℕ) → k < v.part.m → number ≡ get_or ys k 0 → AreBelow ys number k
below-number q v ys h k number lt is =
    let up = h.values.rising in
    let count : length ys ≡ v.part.m = h.values.count in
    record {
      fit = omega arith;
      below = λ i less. omega (arith, rises ys up i k (omega arith) (omega arith));
      above = λ i more within. omega (arith, rises ys up k i more within);
    }

-- the number that stands at a place of the part, where it has a one
placed : (q : ℕ) (v : MapView q) (ys : List ℕ) → Holds q v ys → (p n : ℕ) → p ≡ v.part.place + n → n < v.part.u → get_or (bits_of v.part.bits.words.now) p 0 ≡ 1
    → (k : ℕ) × (k < length ys) × (get_or ys k 0 ≡ n)
placed q v ys h p n e lt one =
    (view-read q v ys h).ones.only n
    (window-at (bits_of v.part.bits.words.now) v.part.place v.part.u n lt ∙ ap (λ i. get_or (bits_of v.part.bits.words.now) i 0) (let same : v.part.place + n ≡ p = omega arith in same) ∙ one)

-- each number has a one at its place
one-at : (q : ℕ) (v : MapView q) (ys : List ℕ) → Holds q v ys → (k p : ℕ) → k < length ys → p ≡ v.part.place + get_or ys k 0 → get_or (bits_of v.part.bits.words.now) p 0 ≡ 1
one-at q v ys h k p lt e =
    let read = view-read q v ys h in
    let low = below-universe v.part.u v.part.m ys h.values k (omega (arith, h.values.count)) in
    let bit = read.ones.one k lt in
    let there = window-at (bits_of v.part.bits.words.now) v.part.place v.part.u (get_or ys k 0) low in
    let same : get_or (bits_of v.part.bits.words.now) p 0 ≡ get_or (bits_of v.part.bits.words.now) (v.part.place + get_or ys k 0) 0 = ap (λ i. get_or (bits_of v.part.bits.words.now) i 0) e in
    omega (arith, same, there, bit)

-- the first one behind so many numbers is the next of them
pub next-of-ones : (q : ℕ) (v : MapView q) (ys : List ℕ) → Holds q v ys → (at end p r : ℕ) → v.part.place ≤ at → end ≤ v.part.place + v.part.u
    → AreBelow ys (at - v.part.place) r → IsFirstOne (bits_of v.part.bits.words.now) at end p → IsNumber ys r (p - v.part.place)
next-of-ones q v ys h at end p r behind within below first =
    let n : ℕ = p - v.part.place in
    let after = first.at_or_after in
    let before = first.before_end in
    let found = placed q v ys h p n (omega arith) (omega arith) first.one in
    let same : found.0 ≡ r = elim (cases_lt found.0 r) [
      | inl less ↦ absurd (omega (arith, below.below found.0 less, found.2))
      | inr more ↦ elim (cases_lt r found.0) [
        | inl passed ↦
            let some : r < length ys = omega (arith, found.1) in
            let over = below.above r (omega arith) some in
            let rise = rises ys h.values.rising r found.0 (omega arith) found.1 in
            let zero_here = first.first (v.part.place + get_or ys r 0) (omega arith) (omega (arith, found.2)) in
            let one_here = one-at q v ys h r (v.part.place + get_or ys r 0) some (omega arith) in
            absurd (omega arith)
        | inr not_passed ↦ omega arith
      ]
    ] in
    let is : n ≡ get_or ys r 0 = omega (arith, found.2, ap (λ i. get_or ys i 0) same) in
    let some : r < length ys = omega (arith, found.1, same) in
    record {
      within = some;
      is = is;
      passed = subst (λ i. AreBelow ys (i + 1) (r + 1)) (sym is) (below-next ys h.values.rising r some);
    }

-- where there is none up to an end, the next of them is behind it
pub none-of-ones : (q : ℕ) (v : MapView q) (ys : List ℕ) → Holds q v ys → (at end r : ℕ) → v.part.place ≤ at
    → AreBelow ys (at - v.part.place) r → HasNoOne (bits_of v.part.bits.words.now) at end → r < length ys → end ≤ v.part.place + get_or ys r 0
none-of-ones q v ys h at end r behind below none some = elim (cases_lt (v.part.place + get_or ys r 0) end) [
  | inl early ↦
      let over = below.above r (omega arith) some in
      let zero_here = none (v.part.place + get_or ys r 0) (omega arith) early in
      let one_here = one-at q v ys h r (v.part.place + get_or ys r 0) some (omega arith) in
      absurd (omega arith)
  | inr late ↦ late
]
