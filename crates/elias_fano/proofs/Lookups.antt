use Rattle.std.proofs.Common.{◌≡◌, ◌≢◌, ℕ, zero, suc, ◌+◌, ◌-◌, ◌*◌, ◌/◌, ◌%◌, ◌^◌, ◌<◌, ◌≤◌, List, get_or, refl, sym, ap, ◌∙◌, arith, add-one, inl, inr}
use Rattle.std.proofs.lemmas.Bool.{cases_lt}
use Rattle.std.proofs.Math.Nat.{mul-div_cancel_left, mul-mod_right, div-mul-le_self, mul-le-mul_right, div-add-mod}
use Rattle.bit_words.specs.Bits.{bits_of, IsFirstOne, HasNoOne}
use Rattle.bit_words.proofs.Value.{bits-bits_of}
use Rattle.part_cost.specs.Stored.{IsFirstAtLeast}
use Rattle.elias_fano.specs.declared.EfView.{EfView}
use Rattle.elias_fano.specs.EfBits.{high_place}
use Rattle.elias_fano.specs.EfPlaces.{low_field, low_fields_at, sample_at, past_place, AreBelow}
use Rattle.elias_fano.specs.EfView.{Holds}
use Rattle.elias_fano.specs.Laws.{PlacesFit}
use Rattle.elias_fano.proofs.Rising.{place-within, places-rise}
use Rattle.elias_fano.proofs.Reading.{number-read}
use Rattle.elias_fano.proofs.Scanning.{found-number, some-found, sample-read}
use Rattle.elias_fano.proofs.Views.{view-read-at, places-fit-at}

-- a high part that is not past the last, shifted back
pub shifted-back : (high v l : ℕ) → high ≤ v / 2 ^ l → high * 2 ^ l ≤ v
shifted-back high v l h = omega (arith, mul-le-mul_right (2 ^ l) h, div-mul-le_self v (2 ^ l))

-- the numbers that have a sample
pub no-sample-first : (q k j : ℕ) → k < q → q * (j + 1) ≡ k → ⊥
no-sample-first q k j h e = omega arith

pub no-sample-between : (q k j : ℕ) → k % q ≢ 0 → q * (j + 1) ≡ k → ⊥
no-sample-between q k j h e = h (ap (λ n. n % q) (sym e) ∙ mul-mod_right q (j + 1))

pub sample-number : (q k j : ℕ) → 1 ≤ q → q * (j + 1) ≡ k → k / q - 1 ≡ j
sample-number q k j some e =
    let run : k / q ≡ j + 1 = ap (λ n. n / q) (sym e) ∙ mul-div_cancel_left (j + 1) some in
    omega arith

pub sampled-number : (q k : ℕ) → 1 ≤ q → q ≤ k → k % q ≡ 0 → q * (k / q - 1 + 1) ≡ k
sampled-number q k some fit none =
    let whole : q * (k / q) ≡ k = omega (arith, div-add-mod k q) in
    ap (λ n. q * n) (let e : k / q - 1 + 1 ≡ k / q = positive (k / q) (λ z. omega (arith, ap (λ n. q * n) z)) in e) ∙ whole
  where
    positive : (n : ℕ) → (n ≡ 0 → ⊥) → n - 1 + 1 ≡ n
    positive zero h = absurd (h refl)
    positive (suc n) h = omega arith

-- the sample of the first number of a run is its place
pub run-sample : PlacesFit → (q : ℕ) (v : EfView q) (ys : List ℕ) → Holds q v ys
    → (run : ℕ) → 1 ≤ run → q * run < v.part.m → sample_at (bits_of v.part.bits.words.now) v.part.place v.part.u v.part.m v.low (run - 1) ≡ high_place v.low (q * run) (get_or ys (q * run) 0)
run-sample fit q v ys h run some lt =
    let next : run - 1 + 1 ≡ run = omega arith in
    let here : q * (run - 1 + 1) ≡ q * run = ap (λ n. q * n) next in
    sample-read (bits_of v.part.bits.words.now) v.part.place v.part.u v.part.m v.low q ys (view-read-at q v ys h) v.spacing (run - 1) (omega arith)
    (places-fit-at fit q v ys h (q * (run - 1 + 1)) (omega arith))
    ∙ ap (λ n. high_place v.low n (get_or ys n 0)) here

-- the one of number k is where the search for it ends
pub one-found : (q : ℕ) (v : EfView q) (ys : List ℕ) (k from p : ℕ) → Holds q v ys → k < v.part.m
    → v.part.place + past_place v.low ys k ≤ from → from ≤ v.part.place + high_place v.low k (get_or ys k 0) → IsFirstOne (bits_of v.part.bits.words.now) from (v.part.place + k + (v.part.u - 1) / 2 ^ v.low + 1) p
    → p ≡ v.part.place + high_place v.low k (get_or ys k 0)
one-found q v ys k from p h lt past not_past first =
    found-number (bits_of v.part.bits.words.now) v.part.place v.part.u v.part.m v.low q ys (bits-bits_of v.part.bits.words.now) (view-read-at q v ys h) k from p lt past not_past first

pub one-there : (q : ℕ) (v : EfView q) (ys : List ℕ) (k from : ℕ) → Holds q v ys → k < v.part.m
    → from ≤ v.part.place + high_place v.low k (get_or ys k 0) → HasNoOne (bits_of v.part.bits.words.now) from (v.part.place + k + (v.part.u - 1) / 2 ^ v.low + 1) → ⊥
one-there q v ys k from h lt not_past none =
    some-found (bits_of v.part.bits.words.now) v.part.place v.part.u v.part.m v.low q ys (view-read-at q v ys h) k from lt not_past none

pub number-is : (q : ℕ) (v : EfView q) (ys : List ℕ) (k one : ℕ) → Holds q v ys → k < v.part.m → one ≡ v.part.place + high_place v.low k (get_or ys k 0)
    → (one - v.part.place - k) * 2 ^ v.low + low_field (bits_of v.part.bits.words.now) v.part.place v.part.u v.part.m v.low k ≡ get_or ys k 0
number-is q v ys k one h lt e = number-read (bits_of v.part.bits.words.now) v.part.place v.part.u v.part.m v.low q ys (view-read-at q v ys h) k one lt e

pub number-got : (q : ℕ) (v : EfView q) (ys : List ℕ) (k one number : ℕ) → Holds q v ys → k < v.part.m → one ≡ v.part.place + high_place v.low k (get_or ys k 0)
    → number ≡ (one - v.part.place - k) * 2 ^ v.low + low_field (bits_of v.part.bits.words.now) v.part.place v.part.u v.part.m v.low k → number ≡ get_or ys k 0
number-got q v ys k one number h lt e is = is ∙ number-is q v ys k one h lt e

-- where the search for the next one begins
pub past-next : (l k : ℕ) (ys : List ℕ) → past_place l ys (k + 1) ≡ high_place l k (get_or ys k 0) + 1
past-next l k ys = ap (λ n. past_place l ys n) (add-one k)

pub next-after : (q : ℕ) (v : EfView q) (ys : List ℕ) (k : ℕ) → Holds q v ys → k + 1 < v.part.m → high_place v.low k (get_or ys k 0) < high_place v.low (k + 1) (get_or ys (k + 1) 0)
next-after q v ys k h lt = omega (arith, places-rise ys v.low h.values.rising k (k + 1) (omega arith) (omega (arith, h.values.count)))

pub place-below : (q : ℕ) (v : EfView q) (ys : List ℕ) (k : ℕ) → Holds q v ys → k < v.part.m → high_place v.low k (get_or ys k 0) ≤ k + (v.part.u - 1) / 2 ^ v.low
place-below q v ys k h lt = place-within v.part.u v.part.m v.low ys h.values k lt

-- the place behind the one of a number lies within the high bits
pub behind-within : (q : ℕ) (v : EfView q) (ys : List ℕ) (k number : ℕ) → Holds q v ys → k < v.part.m → number ≡ get_or ys k 0 → v.part.place + number / 2 ^ v.low + k + 1 ≤ v.part.place + low_fields_at v.part.u v.part.m v.low
behind-within q v ys k number h lt is = omega (arith, ap (λ n. n / 2 ^ v.low) is, place-below q v ys k h lt)

-- a number below what is asked is not the last
pub not-last : (q : ℕ) (v : EfView q) (ys : List ℕ) (k number x : ℕ) → Holds q v ys → k < v.part.m → number ≡ get_or ys k 0 → number < x → x < v.part.u → k + 1 < v.part.m
not-last q v ys k number x h lt is below reached =
    elim (cases_lt (k + 1) v.part.m) [
      | inl less ↦ less
      | inr more ↦
          let last : k ≡ v.part.m - 1 = omega arith in
          let here : number ≡ get_or ys (v.part.m - 1) 0 = is ∙ ap (λ n. get_or ys n 0) last in
          absurd (omega (arith, here, h.values.last))
    ]

-- the first number from a later place on is the first one, where those before are below
pub first-onward : (ys : List ℕ) (from k x p : ℕ) → from ≤ k → AreBelow ys from k x → IsFirstAtLeast ys k x p → IsFirstAtLeast ys from x p
first-onward ys from k x p after below first = record {
  at_or_after = omega (arith, first.at_or_after);
  within = first.within;
  at_least = first.at_least;
  first = λ j reached before. elim (cases_lt j k) [
    | inl less ↦ below j reached less
    | inr more ↦ first.first j more before
  ];
}
