use Rattle.std.proofs.Common.{◌≡◌, ℕ, zero, suc, ◌+◌, ◌-◌, ◌*◌, ◌/◌, ◌^◌, ◌<◌, ◌≤◌, ◌==◌, Bool, true, false, cond, List, [], ◌∷◌, length, map, filter, take, drop, get_or, refl, sym, ap, ◌∙◌, arith}
use Rattle.std.specs.List.{range_with_len}
use Rattle.std.specs.List.Sorted.{IsStrictlyIncreasing}
use Rattle.std.proofs.lemmas.Bool.{eq-eqb, eqb-true}
use Rattle.std.proofs.lemmas.List.{ext_get_or, get_or-take, length-take}
use Rattle.std.proofs.lemmas.List.FromFn.{length-range_with_len, get_or-range_with_len, length-map-range_with_len, get_or-map-range_with_len}
use Rattle.std.proofs.lemmas.List.Kept.{IsStrictlyIncreasing-filter}
use Rattle.bit_words.specs.Bits.{field_at}
use Rattle.part_cost.proofs.Numbers.{rises, rising-tail, rising-range}
use Rattle.part_cost.specs.declared.kinds.Kind.{Kind}
use Rattle.part_cost.specs.declared.kinds.Kind.TheVariants.{Ones, Bitmap, Ef}
use Rattle.part_cost.specs.Payload.{kind_of, low_width_of, ef_spacing, bitmap_spacing}
use Rattle.part_cost.specs.Stored.{HoldsPart}
use Rattle.elias_fano.specs.EfBits.{high_place}
use Rattle.elias_fano.proofs.Rising.{places-rise, place-within}
use Rattle.elias_fano.proofs.Reading as elias_fano
use Rattle.ranked_bitmap.proofs.Ones.{AreOnes, set-within}
use Rattle.ranked_bitmap.proofs.Reading as bitmap
use Rattle.part_codec.specs.PartBits.{part_bits}
use Rattle.part_codec.specs.PartValues.{places_of_ones, ef_value, values_of_kind, values_at}
use Rattle.part_codec.specs.Laws.{OneListAtPlace, ValuesStandAt}
use Rattle.part_codec.proofs.Parts.{held-of_kind, held-ones}

-- a number is one of these
abbrev Has : List ℕ → ℕ → Type 0
Has xs n = (k : ℕ) × (k < length xs) × (get_or xs k 0 ≡ n)

in_tail : (x : ℕ) (xs : List ℕ) (n : ℕ) → Has (x ∷ xs) n → x < n → Has xs n
in_tail x xs n (zero, lt, e) h = absurd (omega arith)
in_tail x xs n (suc k, lt, e) h = (k, omega arith, e)

above_head : (x : ℕ) (xs : List ℕ) → IsStrictlyIncreasing (x ∷ xs) → (k : ℕ) → k < length xs → x < get_or xs k 0
above_head x xs up k lt = let far = rises (x ∷ xs) up 0 (suc k) (omega arith) (omega arith) in omega arith

least_of : (x : ℕ) (xs : List ℕ) → IsStrictlyIncreasing (x ∷ xs) → (n : ℕ) → Has (x ∷ xs) n → x ≤ n
least_of x xs up n (zero, lt, e) = omega arith
least_of x xs up n (suc k, lt, e) = omega (arith, above_head x xs up k (omega arith))

-- two rising lists of the same numbers are one
same_rising : (xs ys : List ℕ) → IsStrictlyIncreasing xs → IsStrictlyIncreasing ys
    → ((k : ℕ) → k < length xs → Has ys (get_or xs k 0)) → ((k : ℕ) → k < length ys → Has xs (get_or ys k 0)) → xs ≡ ys
same_rising [] [] up rise into back = refl
same_rising [] (y ∷ ys) up rise into back = absurd (let found = back 0 (omega arith) in omega (arith, found.1))
same_rising (x ∷ xs) [] up rise into back = absurd (let found = into 0 (omega arith) in omega (arith, found.1))
same_rising (x ∷ xs) (y ∷ ys) up rise into back =
    let head : x ≡ y = omega (arith, least_of x xs up y (back 0 (omega arith)), least_of y ys rise x (into 0 (omega arith))) in
    let tail : xs ≡ ys = same_rising xs ys (rising-tail x xs up) (rising-tail y ys rise)
    (λ k lt. in_tail y ys (get_or xs k 0) (into (suc k) (omega arith)) (let over = above_head x xs up k lt in omega arith))
    (λ k lt. in_tail x xs (get_or ys k 0) (back (suc k) (omega arith)) (let over = above_head y ys rise k lt in omega arith)) in
    ap (λ z. z ∷ xs) head ∙ ap (λ zs. y ∷ zs) tail

-- what a filter keeps
kept-head : (p : ℕ → Bool) (x : ℕ) (xs : List ℕ) (n : ℕ) → p n ≡ true → (Has xs n → Has (filter p xs) n)
    → (b : Bool) → p x ≡ b → Has (x ∷ xs) n → Has (cond b (x ∷ filter p xs) (filter p xs)) n
kept-head p x xs n h later true is (zero, lt, e) = (0, omega arith, e)
kept-head p x xs n h later true is (suc k, lt, e) = let found = later (k, omega arith, e) in (suc found.0, omega (arith, found.1), found.2)
kept-head p x xs n h later false is (zero, lt, e) = absurd (let same : p x ≡ p n = ap p e in cc)
kept-head p x xs n h later false is (suc k, lt, e) = later (k, omega arith, e)

kept : (p : ℕ → Bool) (xs : List ℕ) (n : ℕ) → p n ≡ true → Has xs n → Has (filter p xs) n
kept p [] n h (k, lt, e) = absurd (omega arith)
kept p (x ∷ xs) n h has = kept-head p x xs n h (kept p xs n h) (p x) refl has

passed-head : (p : ℕ → Bool) (x : ℕ) (xs : List ℕ) (n : ℕ) → (Has (filter p xs) n → p n ≡ true)
    → (b : Bool) → p x ≡ b → Has (cond b (x ∷ filter p xs) (filter p xs)) n → p n ≡ true
passed-head p x xs n later true is (zero, lt, e) = sym (ap p e) ∙ is
passed-head p x xs n later true is (suc k, lt, e) = later (k, omega arith, e)
passed-head p x xs n later false is has = later has

passed : (p : ℕ → Bool) (xs : List ℕ) (n : ℕ) → Has (filter p xs) n → p n ≡ true
passed p [] n (k, lt, e) = absurd (omega arith)
passed p (x ∷ xs) n has = passed-head p x xs n (passed p xs n) (p x) refl has

-- numbers whose places hold the ones are the places of the ones
places-are : (bits hs : List ℕ) → AreOnes bits hs → places_of_ones bits ≡ hs
places-are bits hs h =
    let n : ℕ = length bits in
    let p : ℕ → Bool = λ i. get_or bits i 0 == 1 in
    same_rising (places_of_ones bits) hs (IsStrictlyIncreasing-filter p (range_with_len 0 n) (rising-range n)) h.rising
    (λ k lt.
    let i : ℕ = get_or (places_of_ones bits) k 0 in
    h.only i (eqb-true (get_or bits i 0) 1 (passed p (range_with_len 0 n) i (k, lt, refl))))
    (λ k lt.
    let i : ℕ = get_or hs k 0 in
    let set : get_or bits i 0 ≡ 1 = h.one k lt in
    let within : i < n = set-within bits i set in
    kept p (range_with_len 0 n) i (eq-eqb (get_or bits i 0) 1 set) (i, omega (arith, length-range_with_len 0 n), omega (arith, get_or-range_with_len 0 n i 0 within)))

-- the places of the numbers among the high bits of a part
abbrev high_places : ℕ → ℕ → List ℕ → List ℕ
high_places l m ys = map (λ k. high_place l k (get_or ys k 0)) (range_with_len 0 m)

length-high_places : (l m : ℕ) (ys : List ℕ) → length (high_places l m ys) ≡ m
length-high_places l m ys = length-map-range_with_len (λ k. high_place l k (get_or ys k 0)) 0 m

high_places-at : (l m : ℕ) (ys : List ℕ) (k : ℕ) → k < m → get_or (high_places l m ys) k 0 ≡ high_place l k (get_or ys k 0)
high_places-at l m ys k lt = get_or-map-range_with_len (λ k. high_place l k (get_or ys k 0)) 0 m k k 0 lt (omega arith)

-- a one among the first bits is one of the bits, both ways
one-within : (bits : List ℕ) (n i p : ℕ) → i < n → i ≡ p → get_or bits p 0 ≡ 1 → get_or (take n bits) i 0 ≡ 1
one-within bits n i p lt e h = get_or-take n bits i 0 lt ∙ ap (λ j. get_or bits j 0) e ∙ h

one-without : (bits : List ℕ) (n i p : ℕ) → i < n → p ≡ i → get_or (take n bits) i 0 ≡ 1 → get_or bits p 0 ≡ 1
one-without bits n i p lt e h = ap (λ j. get_or bits j 0) e ∙ sym (get_or-take n bits i 0 lt) ∙ h

-- these hold the ones of the high bits
high-ones : (bits : List ℕ) (u m l q : ℕ) (ys : List ℕ) → elias_fano.IsRead bits 0 u m l q ys → AreOnes (take (m + (u - 1) / 2 ^ l) bits) (high_places l m ys)
high-ones bits u m l q ys h =
    let n : ℕ = m + (u - 1) / 2 ^ l in
    let count : length ys ≡ m = h.values.count in
    let long : length (high_places l m ys) ≡ m = length-high_places l m ys in
    record {
      rising = λ k lt.
          let rise = places-rise ys l h.values.rising k (k + 1) (omega arith) (omega arith) in
          omega (arith, high_places-at l m ys k (omega arith), high_places-at l m ys (k + 1) (omega arith));
      one = λ k lt.
          let within : k < m = omega arith in
          let here : get_or (high_places l m ys) k 0 ≡ high_place l k (get_or ys k 0) = high_places-at l m ys k within in
          let low : get_or (high_places l m ys) k 0 < n = omega (arith, place-within u m l ys h.values k within) in
          one-within bits n (get_or (high_places l m ys) k 0) (0 + high_place l k (get_or ys k 0)) low (omega arith) (h.one k within);
      only = λ i set.
          let low : i < n = omega (arith, set-within (take n bits) i set, length-take n bits) in
          let found = h.only i low (one-without bits n i (0 + i) low (omega arith) set) in
          (found.0, omega (arith, found.1), high_places-at l m ys found.0 found.1 ∙ found.2);
    }

-- so each number is read back
ef_value-read : (bits : List ℕ) (u m l q : ℕ) (ys : List ℕ) → elias_fano.IsRead bits 0 u m l q ys → (k : ℕ) → k < m → ef_value bits u m l k ≡ get_or ys k 0
ef_value-read bits u m l q ys h k lt =
    let n : ℕ = m + (u - 1) / 2 ^ l in
    let one : ℕ = get_or (places_of_ones (take n bits)) k 0 in
    let is : one ≡ 0 + high_place l k (get_or ys k 0) =
    ap (λ ps. get_or ps k 0) (places-are (take n bits) (high_places l m ys) (high-ones bits u m l q ys h)) ∙ high_places-at l m ys k lt ∙ omega arith in
    ap (λ p. (one - k) * 2 ^ l + field_at bits p l) (let e : n + l * k ≡ 0 + n + l * k = omega arith in e)
    ∙ ap (λ p. (p - k) * 2 ^ l + field_at bits (0 + n + l * k) l) (let e : one ≡ one - 0 = omega arith in e)
    ∙ elias_fano.number-read bits 0 u m l q ys h k one lt is

-- the values by kind, of bits from their first on
values-of_kind : (kind : Kind) (bits : List ℕ) (u m : ℕ) (ys : List ℕ) → kind_of u m ≡ kind → HoldsPart part_bits bits 0 u m ys
    → values_of_kind kind bits u m ≡ ys
values-of_kind Ones bits u m ys e h = sym (held-ones bits 0 u m ys e h)
values-of_kind Bitmap bits u m ys e h =
    places-are (take u bits) ys (bitmap.read-held bits 0 u m bitmap_spacing ys (omega arith) (omega arith) (held-of_kind bits 0 u m Bitmap ys e h)).ones
values-of_kind Ef bits u m ys e h =
    let l : ℕ = low_width_of u m in
    let read = elias_fano.read-held bits 0 u m ef_spacing ys (omega arith) (held-of_kind bits 0 u m Ef ys e h) in
    ext_get_or 0 (map (ef_value bits u m l) (range_with_len 0 m)) ys (length-map-range_with_len (ef_value bits u m l) 0 m ∙ sym h.values.count)
    (λ k lt.
    let within : k < m = omega (arith, length-map-range_with_len (ef_value bits u m l) 0 m) in
    get_or-map-range_with_len (ef_value bits u m l) 0 m k k 0 within (omega arith) ∙ ef_value-read bits u m l ef_spacing ys read k within)

pub values-stand-at : ValuesStandAt
unfolding values_at
values-stand-at bits place u m ys h = values-of_kind (kind_of u m) (drop place bits) u m ys refl (record { values = h.values; stored = h.stored })

pub one-list-at-place : OneListAtPlace
one-list-at-place bits place u m xs ys h g = sym (values-stand-at bits place u m xs h) ∙ values-stand-at bits place u m ys g
