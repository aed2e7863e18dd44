-- Numbers that are the places of the ones of some bits.
use Rattle.std.proofs.Common.{◌≡◌, ℕ, zero, suc, ◌+◌, ◌<◌, ◌≤◌, ◌==◌, Bool, true, false, cond, List, [], ◌∷◌, ◌++◌, length, take, get_or, sum, refl, sym, ap, ◌∙◌, subst, arith, inl, inr, add-one}
use Rattle.std.specs.List.Sorted.{IsStrictlyIncreasing}
use Rattle.std.proofs.lemmas.Bool.{cases_lt, eq-eqb, eqb-true}
use Rattle.std.proofs.lemmas.List.{length_push, get_or_push, get_or_append_left, get_or_past, ext_get_or, take_all}
use Rattle.std.proofs.lemmas.List.Sums.{sum_by_more}
use Rattle.bit_words.proofs.Value.{EachBit}
use Rattle.bit_words.proofs.Ranges.{bit-below}
use Rattle.part_cost.proofs.Numbers.{rises}

-- The numbers are the places of the ones of some bits.
pub record AreOnes (bits ys : List ℕ) : Type 0 where
  pub rising : IsStrictlyIncreasing ys
  pub one : (k : ℕ) → k < length ys → get_or bits (get_or ys k 0) 0 ≡ 1
  pub only : (i : ℕ) → get_or bits i 0 ≡ 1 → (k : ℕ) × (k < length ys) × (get_or ys k 0 ≡ i)

-- nothing stands past the end
pub set-within : (bits : List ℕ) (i : ℕ) → get_or bits i 0 ≡ 1 → i < length bits
set-within bits i h =
    elim (cases_lt i (length bits)) [
      | inl less ↦ less
      | inr more ↦ absurd (let none = get_or_past bits i 0 more in omega arith)
    ]

-- the sum of one more number
pub sum-suc : (n : ℕ) (xs : List ℕ) → sum (take (n + 1) xs) ≡ sum (take n xs) + get_or xs n 0
sum-suc n xs =
    elim (cases_lt n (length xs)) [
      | inl less ↦ sum_by_more (λ x. x) xs n 0 less
      | inr more ↦ omega (arith, ap sum (take_all n xs more), ap sum (take_all (n + 1) xs (omega arith)), get_or_past xs n 0 more)
    ]

-- How many numbers lie below a place: r of them, and these are the first.
pub record AreBelow (ys : List ℕ) (p r : ℕ) : Type 0 where
  pub fit : r ≤ length ys
  pub below : (k : ℕ) → k < r → get_or ys k 0 < p
  pub above : (k : ℕ) → r ≤ k → k < length ys → p ≤ get_or ys k 0

pub one_count : (ys : List ℕ) (p r q : ℕ) → AreBelow ys p r → AreBelow ys p q → r ≡ q
one_count ys p r q h g =
    elim (cases_lt r q) [
      | inl less ↦ absurd (let under = g.below r less in let over = h.above r (omega arith) (omega (arith, g.fit)) in omega arith)
      | inr more ↦ elim (cases_lt q r) [
        | inl less ↦ absurd (let under = h.below q less in let over = g.above q (omega arith) (omega (arith, h.fit)) in omega arith)
        | inr same ↦ omega arith
      ]
    ]

-- so many lie below a number
pub below-number : (ys : List ℕ) → IsStrictlyIncreasing ys → (k : ℕ) → k < length ys → AreBelow ys (get_or ys k 0) k
below-number ys up k lt = record {
  fit = omega arith;
  below = λ i less. omega (arith, rises ys up i k (omega arith) lt);
  above = λ i more within. omega (arith, rises ys up k i more within);
}

pub below-next : (ys : List ℕ) → IsStrictlyIncreasing ys → (k : ℕ) → k < length ys → AreBelow ys (get_or ys k 0 + 1) (k + 1)
below-next ys up k lt = record {
  fit = omega arith;
  below = λ i less. omega (arith, rises ys up i k (omega arith) lt);
  above = λ i more within. omega (arith, rises ys up k i (omega arith) within);
}

-- The ones before a place count the numbers below it.
next-below : (bits ys : List ℕ) (p r : ℕ) → EachBit bits → AreOnes bits ys → AreBelow ys p r → (b : ℕ) → get_or bits p 0 ≡ b → AreBelow ys (p + 1) (r + b)
next-below bits ys p r each h g zero unset =
    let same : r + 0 ≡ r = omega arith in
    subst (λ n. AreBelow ys (p + 1) n) (sym same)
    record {
      fit = g.fit;
      below = λ k lt. omega (arith, g.below k lt);
      above = λ k more within. not-here (get_or ys k 0) (h.one k within) (g.above k more within);
    }
  where
    not-here : (y : ℕ) → get_or bits y 0 ≡ 1 → p ≤ y → p + 1 ≤ y
    not-here y set fit =
        elim (cases_lt p y) [
          | inl less ↦ omega arith
          | inr more ↦ absurd (let here : get_or bits y 0 ≡ get_or bits p 0 = ap (λ i. get_or bits i 0) (let e : y ≡ p = omega arith in e) in omega arith)
        ]
next-below bits ys p r each h g (suc b) set =
    let bit = bit-below bits p each in
    let one : get_or bits p 0 ≡ 1 = omega arith in
    let found = h.only p one in
    let last : found.0 ≡ r =
    one_count ys p found.0 r (subst (λ n. AreBelow ys n found.0) found.2 (below-number ys h.rising found.0 found.1)) g in
    let count : found.0 + 1 ≡ r + suc b = omega arith in
    let place : get_or ys found.0 0 + 1 ≡ p + 1 = omega (arith, found.2) in
    subst (λ n. AreBelow ys (p + 1) n) count (subst (λ n. AreBelow ys n (found.0 + 1)) place (below-next ys h.rising found.0 found.1))

pub count-below : (bits ys : List ℕ) (p : ℕ) → EachBit bits → AreOnes bits ys → AreBelow ys p (sum (take p bits))
count-below bits ys zero each h = record {
  fit = omega arith;
  below = λ k lt. absurd (omega arith);
  above = λ k more within. omega arith;
}
count-below bits ys (suc p) each h =
    subst (λ n. AreBelow ys n (sum (take n bits))) (add-one p)
    (subst (λ n. AreBelow ys (p + 1) n) (sym (sum-suc p bits))
    (next-below bits ys p (sum (take p bits)) each h (count-below bits ys p each h) (get_or bits p 0) refl))

-- all of them
pub count-all : (bits ys : List ℕ) → EachBit bits → AreOnes bits ys → sum (take (length bits) bits) ≡ length ys
count-all bits ys each h =
    one_count ys (length bits) (sum (take (length bits) bits)) (length ys) (count-below bits ys (length bits) each h)
    record {
      fit = omega arith;
      below = λ k lt. set-within bits (get_or ys k 0) (h.one k lt);
      above = λ k more within. absurd (omega arith);
    }

-- Some bits have one list of ones.
same-at : (bits xs ys : List ℕ) → EachBit bits → AreOnes bits xs → AreOnes bits ys → (k : ℕ) → k < length xs → get_or xs k 0 ≡ get_or ys k 0
same-at bits xs ys each h g k lt =
    let found = g.only (get_or xs k 0) (h.one k lt) in
    let first : k ≡ sum (take (get_or xs k 0) bits) =
    one_count xs (get_or xs k 0) k (sum (take (get_or xs k 0) bits)) (below-number xs h.rising k lt) (count-below bits xs (get_or xs k 0) each h) in
    let second : found.0 ≡ sum (take (get_or xs k 0) bits) =
    one_count ys (get_or xs k 0) found.0 (sum (take (get_or xs k 0) bits))
    (subst (λ n. AreBelow ys n found.0) found.2 (below-number ys g.rising found.0 found.1)) (count-below bits ys (get_or xs k 0) each g) in
    sym found.2 ∙ ap (λ n. get_or ys n 0) (second ∙ sym first)

pub one_list_of : (bits xs ys : List ℕ) → EachBit bits → AreOnes bits xs → AreOnes bits ys → xs ≡ ys
one_list_of bits xs ys each h g =
    ext_get_or 0 xs ys (sym (count-all bits xs each h) ∙ count-all bits ys each g) (λ k lt. same-at bits xs ys each h g k lt)

-- and they have one: the places of the ones, in order
abbrev pub places_of : List ℕ → ℕ → List ℕ
places_of bits zero = []
places_of bits (suc n) = cond (get_or bits n 0 == 1) (places_of bits n ++ n ∷ []) (places_of bits n)

record AreFirst (bits : List ℕ) (n : ℕ) (ys : List ℕ) : Type 0 where
  pub rising : IsStrictlyIncreasing ys
  pub low : (k : ℕ) → k < length ys → get_or ys k 0 < n
  pub one : (k : ℕ) → k < length ys → get_or bits (get_or ys k 0) 0 ≡ 1
  pub only : (i : ℕ) → i < n → get_or bits i 0 ≡ 1 → (k : ℕ) × (k < length ys) × (get_or ys k 0 ≡ i)

first-more : (bits : List ℕ) (n : ℕ) (ys : List ℕ) → AreFirst bits n ys → (b : Bool) → (get_or bits n 0 == 1) ≡ b → AreFirst bits (suc n) (cond b (ys ++ n ∷ []) ys)
first-more bits n ys h true e =
    let set : get_or bits n 0 ≡ 1 = eqb-true (get_or bits n 0) 1 e in
    let longer : length (ys ++ n ∷ []) ≡ length ys + 1 = length_push ys n in
    record {
      rising = λ i lt. elim (cases_lt (i + 1) (length ys)) [
        | inl less ↦ omega (arith, get_or_append_left ys (n ∷ []) 0 i (omega arith), get_or_append_left ys (n ∷ []) 0 (i + 1) less, h.rising i less)
        | inr more ↦ omega (arith, get_or_append_left ys (n ∷ []) 0 i (omega arith), get_or_push ys n 0 (i + 1) (omega arith), h.low i (omega arith))
      ];
      low = λ k lt. elim (cases_lt k (length ys)) [
        | inl less ↦ omega (arith, get_or_append_left ys (n ∷ []) 0 k less, h.low k less)
        | inr more ↦ omega (arith, get_or_push ys n 0 k (omega arith))
      ];
      one = λ k lt. elim (cases_lt k (length ys)) [
        | inl less ↦ ap (λ i. get_or bits i 0) (get_or_append_left ys (n ∷ []) 0 k less) ∙ h.one k less
        | inr more ↦ ap (λ i. get_or bits i 0) (get_or_push ys n 0 k (omega arith)) ∙ set
      ];
      only = λ i lt here. elim (cases_lt i n) [
        | inl less ↦ (let found = h.only i less here in (found.0, omega (arith, found.1), get_or_append_left ys (n ∷ []) 0 found.0 found.1 ∙ found.2))
        | inr more ↦ (length ys, omega arith, omega (arith, get_or_push ys n 0 (length ys) refl))
      ];
    }
first-more bits n ys h false e =
    record {
      rising = h.rising;
      low = λ k lt. omega (arith, h.low k lt);
      one = h.one;
      only = λ i lt here. elim (cases_lt i n) [
        | inl less ↦ h.only i less here
        | inr more ↦
            let same : get_or bits n 0 ≡ 1 = ap (λ k. get_or bits k 0) (let k : n ≡ i = omega arith in k) ∙ here in
            let set : (get_or bits n 0 == 1) ≡ true = eq-eqb (get_or bits n 0) 1 same in
            absurd (cc)
      ];
    }

first-ones : (bits : List ℕ) (n : ℕ) → AreFirst bits n (places_of bits n)
first-ones bits zero = record {
  rising = λ k lt. absurd (omega arith);
  low = λ k lt. absurd (omega arith);
  one = λ k lt. absurd (omega arith);
  only = λ i lt here. absurd (omega arith);
}
first-ones bits (suc n) = first-more bits n (places_of bits n) (first-ones bits n) (get_or bits n 0 == 1) refl

pub all-ones : (bits : List ℕ) → AreOnes bits (places_of bits (length bits))
all-ones bits =
    let h = first-ones bits (length bits) in
    record { rising = h.rising; one = h.one; only = λ i set. h.only i (set-within bits i set) set }
