-- The greatest step of numbers that are passed one after another.
use Rattle.std.proofs.Common.{◌≡◌, ℕ, ◌+◌, ◌-◌, ◌<◌, ◌≤◌, List, [], ◌∷◌, ◌++◌, length, drop, take, map, set, get_or, max, refl, ap, sym, subst, ◌∙◌, arith, inl, inr}
use Rattle.std.proofs.lemmas.Bool.{cases_lt}
use Rattle.std.proofs.lemmas.List.{drop_more, drop_all, take_more, take_all, take_more_set, map-append}
use Rattle.bit_words.specs.Bits.{bits_of, HasNoOne}
use Rattle.collection_model.specs.Collection.{greatest}
use Rattle.collection_model.specs.Sequences.{steps_from}
use Rattle.ranked_bitmap.proofs.Ones.{AreBelow}
use Rattle.ranked_bitmap.proofs.Following.{IsNumber, none-of-ones}
use Rattle.ranked_bitmap.proofs.Views.{number-below}
use Rattle.ranked_bitmap.specs.declared.MapView.{MapView}
use Rattle.ranked_bitmap.specs.MapView.{Holds}

-- Of so many numbers, all below a place, this is the greatest step; the others are still to be passed.
pub record StepsPassed (ys : List ℕ) (at most : ℕ) : Type 0 where
  pub count : ℕ
  pub below : AreBelow ys at count
  pub largest : max most (greatest (steps_from at (drop count ys))) ≡ greatest (steps_from 0 ys)

pub none-passed : (ys : List ℕ) → StepsPassed ys 0 0
none-passed ys = record {
  count = 0;
  below = record {
    fit = omega arith;
    below = λ k lt. absurd (omega arith);
    above = λ k more within. omega arith;
  };
  largest = omega arith;
}

pub none-counted : (ys : List ℕ) → (s : StepsPassed ys 0 0) × (s.count ≡ 0)
unfolding none-passed
none-counted ys = (none-passed ys, refl)

-- one more number is passed
pub next-passed : (ys : List ℕ) (at most n step : ℕ) (h : StepsPassed ys at most) → IsNumber ys h.count n → step ≡ max (n + 1 - at) most → StepsPassed ys (n + 1) step
next-passed ys at most n step h number is =
    let r : ℕ = h.count in
    let rest = ap (λ xs. greatest (steps_from at xs)) (drop_more ys r 0 number.within) in
    let same = ap (λ y. max (y + 1 - at) (greatest (steps_from (y + 1) (drop (r + 1) ys)))) number.is in
    record {
      count = r + 1;
      below = number.passed;
      largest = omega (arith, h.largest, rest, same);
    }

-- and with it so many, where one place is told otherwise
pub next-counted : (ys : List ℕ) (at most n step next j : ℕ) (h : StepsPassed ys at most) → h.count ≡ j → IsNumber ys h.count n
    → step ≡ max (n + 1 - at) most → n + 1 ≡ next → (s : StepsPassed ys next step) × (s.count ≡ j + 1)
unfolding next-passed
next-counted ys at most n step next j h same number is behind =
    subst (λ p. (s : StepsPassed ys p step) × (s.count ≡ j + 1)) behind (next-passed ys at most n step h number is, ap (λ i. i + 1) same)

-- where no one is left, all are passed
pub none-left : (q : ℕ) (v : MapView q) (ys : List ℕ) → Holds q v ys → (at end r : ℕ) → v.part.place ≤ at → v.part.place + v.part.u ≤ end
    → AreBelow ys (at - v.part.place) r → HasNoOne (bits_of v.part.bits.words.now) at end → length ys ≤ r
none-left q v ys h at end r started all below none =
    elim (cases_lt r (length ys)) as (λ _. length ys ≤ r) [
      | inl more ↦ absurd (omega (arith, none-of-ones q v ys h at end r started below none more, number-below q v ys h r (omega (arith, h.values.count))))
      | inr so ↦ so
    ]

-- one more number is given
pub given-next : (ys to : List ℕ) (base j n : ℕ) → j < length to → j < length ys → n ≡ get_or ys j 0 → take j to ≡ map (λ y. y + base) (take j ys)
    → take (j + 1) (set to j (n + base)) ≡ map (λ y. y + base) (take (j + 1) ys)
given-next ys to base j n room within is so_far =
    take_more_set to j (n + base) room
    ∙ ap (λ (xs : List ℕ). xs ++ (n + base) ∷ []) so_far
    ∙ ap (λ i. map (λ y. y + base) (take j ys) ++ (i + base) ∷ []) is
    ∙ sym (map-append (λ y. y + base) (take j ys) (get_or ys j 0 ∷ []))
    ∙ ap (λ (xs : List ℕ). map (λ y. y + base) xs) (sym (take_more ys j 0 within))

-- all are given
pub given-all : (ys to : List ℕ) (base j : ℕ) → length to ≤ j → length ys ≤ j → take j to ≡ map (λ y. y + base) (take j ys) → to ≡ map (λ y. y + base) ys
given-all ys to base j room all so_far =
    sym (take_all j to room) ∙ so_far ∙ ap (λ (xs : List ℕ). map (λ y. y + base) xs) (take_all j ys all)

-- where all are passed, it is the greatest
pub all-passed : (ys : List ℕ) (at most : ℕ) (h : StepsPassed ys at most) → length ys ≤ h.count → most ≡ greatest (steps_from 0 ys)
all-passed ys at most h all =
    let none = ap (λ xs. greatest (steps_from at xs)) (drop_all h.count ys all) in
    omega (arith, h.largest, none)
