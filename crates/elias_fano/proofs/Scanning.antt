use Rattle.std.proofs.Common.{◌≡◌, ℕ, zero, suc, ◌+◌, ◌-◌, ◌*◌, ◌/◌, ◌^◌, ◌<◌, ◌≤◌, List, length, get_or, refl, sym, ap, ◌∙◌, arith, inl, inr}
use Rattle.std.proofs.lemmas.Bool.{cases_lt}
use Rattle.std.proofs.lemmas.List.{ext_get_or}
use Rattle.std.proofs.lemmas.Nat.{le-div}
use Rattle.std.proofs.Math.Nat.{mod-eq_of_lt}
use Rattle.bit_words.specs.Bits.{IsFirstOne, HasNoOne}
use Rattle.bit_words.proofs.Value.{EachBit}
use Rattle.bit_words.proofs.Ranges.{bit-below}
use Rattle.bit_words.proofs.AllBits.{unset_bit}
use Rattle.part_cost.specs.Payload.{digits}
use Rattle.part_cost.specs.Span.{past}
use Rattle.elias_fano.specs.EfBits.{high_place}
use Rattle.elias_fano.specs.EfPlaces.{sample_at, past_place}
use Rattle.elias_fano.proofs.Rising.{places-rise, place-within, past-before, before-past}
use Rattle.elias_fano.proofs.Reading.{IsRead, number-read}

-- which samples there are
pub within-sampled : (q m j : ℕ) → 1 ≤ q → q * (j + 1) < m → j < (m - 1) / q
within-sampled q m j some lt =
    let least : j + 1 ≤ (m - 1) / q = le-div (j + 1) (m - 1) q some (omega arith) in
    omega arith

-- no bit at the place of no one
other_bit : (bits : List ℕ) (place u m l q : ℕ) (ys : List ℕ) → EachBit bits → IsRead bits place u m l q ys → (k p : ℕ) → k < m
    → place + past_place l ys k ≤ p → p < place + high_place l k (get_or ys k 0) → get_or bits p 0 ≡ 0
other_bit bits place u m l q ys each h k p lt after before =
    let count : length ys ≡ m = h.values.count in
    let i : ℕ = p - place in
    let same : p ≡ place + i = omega arith in
    let within = place-within u m l ys h.values k lt in
    unset_bit (get_or bits p 0) (bit-below bits p each)
    (λ set.
    let found = h.only i (omega arith) (ap (λ x. get_or bits x 0) (sym same) ∙ set) in
    elim (cases_lt found.0 k) [
      | inl less ↦ let b = before-past ys l h.values.rising found.0 k less (omega arith) in omega (arith, found.2)
      | inr more ↦ let b = places-rise ys l h.values.rising k found.0 more (omega (arith, found.1)) in omega (arith, found.2)
    ])

-- the one of number k is the first from any place past the ones before it on
pub number-is-first : (bits : List ℕ) (place u m l q : ℕ) (ys : List ℕ) → EachBit bits → IsRead bits place u m l q ys → (k from to : ℕ) → k < m
    → place + past_place l ys k ≤ from → from ≤ place + high_place l k (get_or ys k 0) → place + high_place l k (get_or ys k 0) < to
    → IsFirstOne bits from to (place + high_place l k (get_or ys k 0))
number-is-first bits place u m l q ys each h k from to lt past not_past end = record {
  at_or_after = not_past;
  before_end = end;
  one = h.one k lt;
  first = λ p after before. other_bit bits place u m l q ys each h k p lt (omega arith) before;
}

pub one_first : (bits : List ℕ) (from to p r : ℕ) → IsFirstOne bits from to p → IsFirstOne bits from to r → p ≡ r
one_first bits from to p r h k =
    elim (cases_lt p r) [
      | inl less ↦ absurd (let zero_here = k.first p h.at_or_after less in let set = h.one in omega arith)
      | inr more ↦ elim (cases_lt r p) [
        | inl less ↦ absurd (let zero_here = h.first r k.at_or_after less in let set = k.one in omega arith)
        | inr same ↦ omega arith
      ]
    ]

-- so what is found from there is that one
pub found-number : (bits : List ℕ) (place u m l q : ℕ) (ys : List ℕ) → EachBit bits → IsRead bits place u m l q ys → (k from p : ℕ) → k < m
    → place + past_place l ys k ≤ from → from ≤ place + high_place l k (get_or ys k 0) → IsFirstOne bits from (place + k + (u - 1) / 2 ^ l + 1) p
    → p ≡ place + high_place l k (get_or ys k 0)
found-number bits place u m l q ys each h k from p lt past not_past first =
    let within = place-within u m l ys h.values k lt in
    one_first bits from (place + k + (u - 1) / 2 ^ l + 1) p (place + high_place l k (get_or ys k 0)) first
    (number-is-first bits place u m l q ys each h k from (place + k + (u - 1) / 2 ^ l + 1) lt past not_past (omega arith))

-- and there is one
pub some-found : (bits : List ℕ) (place u m l q : ℕ) (ys : List ℕ) → IsRead bits place u m l q ys → (k from : ℕ) → k < m
    → from ≤ place + high_place l k (get_or ys k 0) → HasNoOne bits from (place + k + (u - 1) / 2 ^ l + 1) → ⊥
some-found bits place u m l q ys h k from lt not_past none =
    let within = place-within u m l ys h.values k lt in
    let set = h.one k lt in
    let unset = none (place + high_place l k (get_or ys k 0)) not_past (omega arith) in
    omega arith

-- a sample that has room is the place itself
pub sample-read : (bits : List ℕ) (place u m l q : ℕ) (ys : List ℕ) → IsRead bits place u m l q ys → 1 ≤ q → (j : ℕ) → q * (j + 1) < m
    → high_place l (q * (j + 1)) (get_or ys (q * (j + 1)) 0) < 2 ^ digits (3 * m)
    → sample_at bits place u m l j ≡ high_place l (q * (j + 1)) (get_or ys (q * (j + 1)) 0)
sample-read bits place u m l q ys h some j lt fits = h.sample j (within-sampled q m j some lt) ∙ mod-eq_of_lt fits

-- a view of some bits holds one list: from place to place the same ones are read
same_numbers : (bits : List ℕ) (place u m l q : ℕ) (xs ys : List ℕ) → EachBit bits → IsRead bits place u m l q xs → IsRead bits place u m l q ys
    → (k : ℕ) → k ≤ m → past_place l xs k ≡ past_place l ys k × ((i : ℕ) → i < k → get_or xs i 0 ≡ get_or ys i 0)
same_numbers bits place u m l q xs ys each h g zero fit = (refl, λ i lt. absurd (omega arith))
same_numbers bits place u m l q xs ys each h g (suc k) fit =
    let before = same_numbers bits place u m l q xs ys each h g k (omega arith) in
    let count : length xs ≡ m = h.values.count in
    let within = place-within u m l xs h.values k (omega arith) in
    let after = past-before xs l h.values.rising k (omega arith) in
    let after_too = past-before ys l g.values.rising k (omega (arith, g.values.count)) in
    let from : ℕ = place + past_place l xs k in
    let first = number-is-first bits place u m l q xs each h k from (place + k + (u - 1) / 2 ^ l + 1) (omega arith) (omega arith) (omega arith) (omega arith) in
    let same : place + high_place l k (get_or xs k 0) ≡ place + high_place l k (get_or ys k 0) =
    found-number bits place u m l q ys each g k from (place + high_place l k (get_or xs k 0)) (omega arith) (omega (arith, before.0)) (omega (arith, before.0)) first in
    let number : get_or xs k 0 ≡ get_or ys k 0 =
    sym (number-read bits place u m l q xs h k (place + high_place l k (get_or xs k 0)) (omega arith) refl)
    ∙ number-read bits place u m l q ys g k (place + high_place l k (get_or xs k 0)) (omega arith) same in (
      omega arith,
      λ i lt. elim (cases_lt i k) [
        | inl less ↦ before.1 i less
        | inr more ↦ let here : i ≡ k = omega arith in ap (λ n. get_or xs n 0) here ∙ number ∙ ap (λ n. get_or ys n 0) (sym here)
      ],
    )

pub one_list-read : (bits : List ℕ) (place u m l q : ℕ) (xs ys : List ℕ) → EachBit bits → IsRead bits place u m l q xs → IsRead bits place u m l q ys → xs ≡ ys
one_list-read bits place u m l q xs ys each h g =
    ext_get_or 0 xs ys (h.values.count ∙ sym g.values.count)
    (λ i lt. (same_numbers bits place u m l q xs ys each h g m (omega arith)).1 i (omega (arith, h.values.count)))
