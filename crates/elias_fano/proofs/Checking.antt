use Rattle.std.proofs.Common.{◌≡◌, ℕ, zero, suc, ◌+◌, ◌-◌, ◌*◌, ◌/◌, ◌%◌, ◌^◌, ◌<◌, ◌≤◌, List, [], ◌∷◌, ◌++◌, length, get_or, refl, sym, ap, ◌∙◌, subst, arith, inl, inr, add-one}
use Rattle.std.specs.List.Sorted.{IsStrictlyIncreasing}
use Rattle.std.proofs.lemmas.Bool.{cases_lt}
use Rattle.std.proofs.lemmas.List.{length_push, get_or_push, get_or_append_left}
use Rattle.std.proofs.lemmas.Nat.{div-mul-add, mod-mul-add}
use Rattle.std.proofs.Math.Nat.{mul-le-mul_left}
use Rattle.bit_words.specs.Bits.{IsFirstOne}
use Rattle.bit_words.proofs.Value.{EachBit}
use Rattle.bit_words.proofs.Pieces.{field-fits, field-below}
use Rattle.part_cost.proofs.Numbers.{sampled-within}
use Rattle.part_cost.specs.Payload.{digits}
use Rattle.part_cost.specs.Span.{past}
use Rattle.elias_fano.specs.EfBits.{high_place}
use Rattle.elias_fano.specs.EfPlaces.{ef_length_at, low_fields_at, low_field, sample_at, past_place}
use Rattle.elias_fano.proofs.Reading.{IsRead}

-- The first k numbers of a part, read up to this place; the next is at least this one.
pub record AreBegun (bits : List ℕ) (place u m l q k from least : ℕ) (ys : List ℕ) : Type 0 where
  pub rising : IsStrictlyIncreasing ys
  pub count : length ys ≡ k
  pub one : (i : ℕ) → i < k → get_or bits (place + high_place l i (get_or ys i 0)) 0 ≡ 1
  pub only : (i : ℕ) → place + i < from → get_or bits (place + i) 0 ≡ 1 → (j : ℕ) × (j < k) × (high_place l j (get_or ys j 0) ≡ i)
  pub low : (i : ℕ) → i < k → low_field bits place u m l i ≡ get_or ys i 0 % 2 ^ l
  pub sample : (j : ℕ) → q * (j + 1) < k → sample_at bits place u m l j ≡ high_place l (q * (j + 1)) (get_or ys (q * (j + 1)) 0)
  pub from_is : from ≡ place + past_place l ys k
  pub least_is : least ≡ past ys k

pub begun-none : (bits : List ℕ) (place u m l q : ℕ) → AreBegun bits place u m l q 0 place 0 []
begun-none bits place u m l q = record {
  rising = λ k lt. absurd (omega arith);
  count = refl;
  one = λ i lt. absurd (omega arith);
  only = λ i lt set. absurd (omega arith);
  low = λ i lt. absurd (omega arith);
  sample = λ j lt. absurd (omega arith);
  from_is = omega arith;
  least_is = refl;
}

-- a number pushed behind others
pub rising-pushed : (ys : List ℕ) (y k : ℕ) → IsStrictlyIncreasing ys → length ys ≡ k → past ys k ≤ y → IsStrictlyIncreasing (ys ++ y ∷ [])
rising-pushed ys y k up count above i lt =
    let longer : length (ys ++ y ∷ []) ≡ length ys + 1 = length_push ys y in
    elim (cases_lt (i + 1) k) [
      | inl less ↦ omega (arith, get_or_append_left ys (y ∷ []) 0 i (omega arith), get_or_append_left ys (y ∷ []) 0 (i + 1) (omega arith), up i (omega arith))
      | inr more ↦
          let last : k ≡ suc i = omega arith in
          let floor : get_or ys i 0 + 1 ≤ y = subst (λ n. past ys n ≤ y) last above in
          omega (arith, get_or_append_left ys (y ∷ []) 0 i (omega arith), get_or_push ys y 0 (i + 1) (omega arith))
    ]

-- the parts of a number that was put together
pub high-part : (bits : List ℕ) (place u m l k high number : ℕ) → EachBit bits → number ≡ high * 2 ^ l + low_field bits place u m l k → number / 2 ^ l ≡ high
high-part bits place u m l k high number each e =
    let below : low_field bits place u m l k < 2 ^ l = field-below bits (place + low_fields_at u m l + l * k) l each in
    ap (λ n. n / 2 ^ l) e ∙ div-mul-add high (2 ^ l) (low_field bits place u m l k) below

pub low-part : (bits : List ℕ) (place u m l k high number : ℕ) → EachBit bits → number ≡ high * 2 ^ l + low_field bits place u m l k → number % 2 ^ l ≡ low_field bits place u m l k
low-part bits place u m l k high number each e =
    let below : low_field bits place u m l k < 2 ^ l = field-below bits (place + low_fields_at u m l + l * k) l each in
    ap (λ n. n % 2 ^ l) e ∙ mod-mul-add high (2 ^ l) (low_field bits place u m l k) below

-- one more number
pub begun-more : (bits : List ℕ) (place u m l q k from least to one number : ℕ) (ys : List ℕ) → EachBit bits → AreBegun bits place u m l q k from least ys
    → IsFirstOne bits from to one → place + k ≤ one → number ≡ (one - place - k) * 2 ^ l + low_field bits place u m l k → least ≤ number
    → ((j : ℕ) → q * (j + 1) ≡ k → sample_at bits place u m l j ≡ one - place)
    → AreBegun bits place u m l q (k + 1) (one + 1) (number + 1) (ys ++ number ∷ [])
begun-more bits place u m l q k from least to one number ys each h first above is over sampled =
    let more : List ℕ = ys ++ number ∷ [] in
    let high : number / 2 ^ l ≡ one - place - k = high-part bits place u m l k (one - place - k) number each is in
    let low : number % 2 ^ l ≡ low_field bits place u m l k = low-part bits place u m l k (one - place - k) number each is in
    let before = λ (i : ℕ) (lt : i < k). get_or_append_left ys (number ∷ []) 0 i (omega (arith, h.count)) in
    let at = λ (i : ℕ) (same : i ≡ k). get_or_push ys number 0 i (h.count ∙ sym same) in
    let place_is : high_place l k (get_or more k 0) ≡ one - place = omega (arith, ap (λ n. n / 2 ^ l) (at k refl)) in
    record {
      rising = rising-pushed ys number k h.rising h.count (omega (arith, h.least_is));
      count = omega (arith, length_push ys number, h.count);
      one = λ i lt. elim (cases_lt i k) [
        | inl less ↦ ap (λ n. get_or bits (place + high_place l i n) 0) (before i less) ∙ h.one i less
        | inr not_less ↦
            let same : i ≡ k = omega arith in
            let here : place + high_place l i (get_or more i 0) ≡ one = omega (arith, ap (λ n. high_place l n (get_or more n 0)) same) in
            ap (λ n. get_or bits n 0) here ∙ first.one
      ];
      only = λ i lt set. elim (cases_lt (place + i) from) [
        | inl less ↦
            let found = h.only i less set in
            (found.0, omega (arith, found.1), ap (λ n. high_place l found.0 n) (before found.0 found.1) ∙ found.2)
        | inr not_less ↦ elim (cases_lt (place + i) one) [
          | inl under ↦ absurd (let unset = first.first (place + i) not_less under in omega arith)
          | inr not_under ↦ (k, omega arith, omega arith)
        ]
      ];
      low = λ i lt. elim (cases_lt i k) [
        | inl less ↦ h.low i less ∙ ap (λ n. n % 2 ^ l) (sym (before i less))
        | inr not_less ↦
            let same : i ≡ k = omega arith in
            ap (λ n. low_field bits place u m l n) same ∙ sym low ∙ ap (λ n. n % 2 ^ l) (sym (at i same))
      ];
      sample = λ j lt. elim (cases_lt (q * (j + 1)) k) [
        | inl less ↦ h.sample j less ∙ ap (λ n. high_place l (q * (j + 1)) n) (sym (before (q * (j + 1)) less))
        | inr not_less ↦
            let same : q * (j + 1) ≡ k = omega arith in
            sampled j same ∙ sym place_is ∙ ap (λ n. high_place l n (get_or more n 0)) (sym same)
      ];
      from_is = omega (arith, ap (λ n. past_place l more n) (add-one k));
      least_is = omega (arith, ap (λ n. past more n) (add-one k), at k refl);
    }

pub past-last : (ys : List ℕ) (m : ℕ) → 1 ≤ m → past ys m ≡ get_or ys (m - 1) 0 + 1
past-last ys zero h = absurd (omega arith)
past-last ys (suc k) h = ap (λ n. get_or ys n 0 + 1) (let e : k ≡ suc k - 1 = omega arith in e)

past_place-last : (l : ℕ) (ys : List ℕ) (m : ℕ) → 1 ≤ m → past_place l ys m ≡ high_place l (m - 1) (get_or ys (m - 1) 0) + 1
past_place-last l ys zero h = absurd (omega arith)
past_place-last l ys (suc k) h = ap (λ n. high_place l n (get_or ys n 0) + 1) (let e : k ≡ suc k - 1 = omega arith in e)

-- all numbers
pub begun-all : (bits : List ℕ) (place u m l q from : ℕ) (ys : List ℕ) → EachBit bits → 1 ≤ m → 1 ≤ q → place + ef_length_at q u m l ≤ length bits
    → AreBegun bits place u m l q m from u ys → IsRead bits place u m l q ys
begun-all bits place u m l q from ys each some any room h =
    let last : get_or ys (m - 1) 0 + 1 ≡ u = sym (h.least_is ∙ past-last ys m some) in
    let end : from ≡ place + (m + (u - 1) / 2 ^ l) =
    omega (arith, h.from_is, past_place-last l ys m some, ap (λ n. n / 2 ^ l) (let e : get_or ys (m - 1) 0 ≡ u - 1 = omega arith in e)) in
    record {
      values = record { rising = h.rising; count = h.count; some = omega arith; last = last };
      room = room;
      one = h.one;
      only = λ i lt set. h.only i (omega arith) set;
      low = h.low;
      sample = λ j lt.
          sym (field-fits bits (place + low_fields_at u m l + l * m + digits (3 * m) * j) (digits (3 * m)) each)
          ∙ ap (λ n. n % 2 ^ digits (3 * m)) (h.sample j (sampled-within q m j any some lt));
    }

-- A multiple of the spacing, with no other from number k on before it.
pub record IsNextSampled (q k sampled : ℕ) : Type 0 where
  pub multiple : (r : ℕ) × (sampled ≡ q * r)
  pub some : q ≤ sampled
  pub ahead : k ≤ sampled
  pub between : (j : ℕ) → k ≤ q * (j + 1) → sampled ≤ q * (j + 1)

-- Any other number has no sample,
pub unsampled : (q k sampled : ℕ) → IsNextSampled q k sampled → (k ≡ sampled → ⊥) → (j : ℕ) → q * (j + 1) ≡ k → ⊥
unsampled q k sampled is other j e = other (let same : k ≡ sampled = omega (arith, e, is.ahead, is.between j (omega (arith, e))) in same)

-- and the next one stays the same behind it.
pub sampled-same : (q k sampled : ℕ) → IsNextSampled q k sampled → (k ≡ sampled → ⊥) → IsNextSampled q (k + 1) sampled
sampled-same q k sampled is other = record {
  multiple = is.multiple;
  some = is.some;
  ahead = elim (cases_lt k sampled) [
    | inl less ↦ omega arith
    | inr more ↦ absurd (other (let same : k ≡ sampled = omega (arith, is.ahead) in same))
  ];
  between = λ j after. is.between j (omega arith);
}

-- Behind a number with a sample it is the next multiple.
pub sampled-next : (q k sampled : ℕ) → 1 ≤ q → IsNextSampled q k sampled → k ≡ sampled → IsNextSampled q (k + 1) (sampled + q)
sampled-next q k sampled any is here =
    let r : ℕ = is.multiple.0 in
    let at : sampled ≡ q * r = is.multiple.1 in
    record {
      multiple = (r + 1, omega (arith, at));
      some = omega arith;
      ahead = omega arith;
      between = λ j after. elim (cases_lt r (j + 1)) [
        | inl less ↦ omega (arith, at, mul-le-mul_left {m = r + 1} {n = j + 1} q (let e : r + 1 ≤ j + 1 = omega arith in e))
        | inr more ↦ absurd (omega (arith, at, here, after, mul-le-mul_left {m = j + 1} {n = r} q more))
      ];
    }
