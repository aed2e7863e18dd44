-- What the bits of a part say, place by place, and how many they are.
use Rattle.std.proofs.Common.{◌≡◌, ℕ, ◌+◌, ◌-◌, ◌*◌, ◌/◌, ◌%◌, ◌^◌, ◌<◌, ◌≤◌, Bool, true, false, cond, List, ◌++◌, length, map, get_or, slice_index, refl, sym, ap, ◌∙◌, subst, arith}
use Rattle.std.specs.List.{range_with_len, flat_map}
use Rattle.std.proofs.lemmas.List.{length-append, length-map, get_or-map}
use Rattle.std.proofs.lemmas.List.Folds.{flat_map-map}
use Rattle.std.proofs.lemmas.List.FromFn.{length-map-range_with_len, get_or-map-range_with_len}
use Rattle.std.proofs.Math.Nat.{mod-mod, div-add-mod}
use Rattle.bit_words.specs.Bits.{field_bits, field_at}
use Rattle.bit_words.proofs.Value.{EachBit}
use Rattle.bit_words.proofs.Ranges.{bit-below}
use Rattle.bit_words.proofs.AllBits.{set_bit, unset_bit}
use Rattle.bit_words.proofs.Pieces.{StandAt, stands-first, stands-second, stands-both, stands-at, stands-from, stands-within, length-fields, fields-stand, stands-fields}
use Rattle.part_cost.specs.Payload.{digits, low_width_of}
use Rattle.part_cost.specs.Span.{AreRelative}
use Rattle.part_cost.specs.Stored.{HoldsPart}
use Rattle.elias_fano.specs.EfBits.{high_place, high_bits, low_fields, ef_samples, ef_bits}
use Rattle.elias_fano.specs.EfPlaces.{ef_length, ef_length_at, low_fields_at, low_field, sample_at}
use Rattle.elias_fano.proofs.HighBits.{has_one, has_one-at, one_of-has_one, length-high_bits, high_bit}
use Rattle.elias_fano.proofs.Rising.{place-within}

-- the low parts of numbers, and the places of those with a sample
abbrev pub low_parts : ℕ → List ℕ → List ℕ
low_parts l ys = map (λ y. y % 2 ^ l) ys

abbrev pub sampled_places : ℕ → ℕ → List ℕ → List ℕ
sampled_places q l ys = map (λ j. high_place l (q * j) (slice_index ys (q * j))) (range_with_len 1 ((length ys - 1) / q))

pub low_fields-are : (l : ℕ) (ys : List ℕ) → flat_map (field_bits l) (low_parts l ys) ≡ low_fields l ys
low_fields-are l ys = flat_map-map (field_bits l) (λ y. y % 2 ^ l) ys

pub samples-are : (q l : ℕ) (ys : List ℕ) → flat_map (field_bits (digits (3 * length ys))) (sampled_places q l ys) ≡ ef_samples q l ys
samples-are q l ys =
    flat_map-map (field_bits (digits (3 * length ys))) (λ j. high_place l (q * j) (slice_index ys (q * j))) (range_with_len 1 ((length ys - 1) / q))

pub length-low_fields : (l : ℕ) (ys : List ℕ) → length (low_fields l ys) ≡ l * length ys
length-low_fields l ys = sym (ap length (low_fields-are l ys)) ∙ length-fields l (low_parts l ys) ∙ ap (λ n. l * n) (length-map ys (λ y. y % 2 ^ l))

pub length-samples : (q l : ℕ) (ys : List ℕ) → length (ef_samples q l ys) ≡ digits (3 * length ys) * ((length ys - 1) / q)
length-samples q l ys =
    sym (ap length (samples-are q l ys))
    ∙ length-fields (digits (3 * length ys)) (sampled_places q l ys)
    ∙ ap (λ n. digits (3 * length ys) * n) (length-map-range_with_len (λ j. high_place l (q * j) (slice_index ys (q * j))) 1 ((length ys - 1) / q))

-- the three pieces of a part
abbrev pub pieces : ℕ → ℕ → List ℕ → ℕ → List ℕ
pieces q l ys u = high_bits l u ys ++ low_fields l ys ++ ef_samples q l ys

pub part-is : (q u : ℕ) (ys : List ℕ) → ef_bits q ys u ≡ pieces q (low_width_of u (length ys)) ys u
unfolding ef_bits
part-is q u ys = refl

same_sum : (m v l n w : ℕ) → m + v + l * m + w * n ≡ m * l + m + v + n * w
same_sum m v l n w = omega arith

pub length-pieces : (q l : ℕ) (ys : List ℕ) (u : ℕ) → length (pieces q l ys u) ≡ ef_length_at q u (length ys) l
length-pieces q l ys u =
    length-append (high_bits l u ys ++ low_fields l ys) (ef_samples q l ys)
    ∙ ap (λ n. n + length (ef_samples q l ys)) (length-append (high_bits l u ys) (low_fields l ys))
    ∙ ap (λ n. n + length (low_fields l ys) + length (ef_samples q l ys)) (length-high_bits l u ys)
    ∙ ap (λ n. length ys + (u - 1) / 2 ^ l + n + length (ef_samples q l ys)) (length-low_fields l ys)
    ∙ ap (λ n. length ys + (u - 1) / 2 ^ l + l * length ys + n) (length-samples q l ys)
    ∙ same_sum (length ys) ((u - 1) / 2 ^ l) l ((length ys - 1) / q) (digits (3 * length ys))

pub length-part : (q u : ℕ) (ys : List ℕ) → length (ef_bits q ys u) ≡ ef_length q u (length ys)
unfolding ef_length
length-part q u ys = ap length (part-is q u ys) ∙ length-pieces q (low_width_of u (length ys)) ys u

-- What a part says, place by place: each number's one, no other one, the low fields and the samples.
pub record IsRead (bits : List ℕ) (place u m l q : ℕ) (ys : List ℕ) : Type 0 where
  pub values : AreRelative u m ys
  pub room : place + ef_length_at q u m l ≤ length bits
  pub one : (k : ℕ) → k < m → get_or bits (place + high_place l k (get_or ys k 0)) 0 ≡ 1
  pub only : (i : ℕ) → i < m + (u - 1) / 2 ^ l → get_or bits (place + i) 0 ≡ 1 → (k : ℕ) × (k < m) × (high_place l k (get_or ys k 0) ≡ i)
  pub low : (k : ℕ) → k < m → low_field bits place u m l k ≡ get_or ys k 0 % 2 ^ l
  pub sample : (j : ℕ) → j < (m - 1) / q → sample_at bits place u m l j ≡ high_place l (q * (j + 1)) (get_or ys (q * (j + 1)) 0) % 2 ^ digits (3 * m)

-- bits that are a part's are read so
pub read-pieces : (bits : List ℕ) (place u l q : ℕ) (ys : List ℕ) → place ≤ length bits → AreRelative u (length ys) ys
    → StandAt bits place (pieces q l ys u) → IsRead bits place u (length ys) l q ys
read-pieces bits place u l q ys placed h stands =
    let high : List ℕ = high_bits l u ys in
    let low : List ℕ = low_fields l ys in
    let samples : List ℕ = ef_samples q l ys in
    let prefix : StandAt bits place (high ++ low) = stands-first bits place (high ++ low) samples stands in
    let highs : StandAt bits place high = stands-first bits place high low prefix in
    let lows : StandAt bits (place + length high) (flat_map (field_bits l) (low_parts l ys)) =
    subst (λ xs. StandAt bits (place + length high) xs) (sym (low_fields-are l ys)) (stands-second bits place high low prefix) in
    let rest : StandAt bits (place + length (high ++ low)) (flat_map (field_bits (digits (3 * length ys))) (sampled_places q l ys)) =
    subst (λ xs. StandAt bits (place + length (high ++ low)) xs) (sym (samples-are q l ys)) (stands-second bits place (high ++ low) samples stands) in
    let high_count : length high ≡ length ys + (u - 1) / 2 ^ l = length-high_bits l u ys in
    let prefix_count : length (high ++ low) ≡ length ys + (u - 1) / 2 ^ l + l * length ys =
    omega (arith, length-append high low, length-low_fields l ys) in
    record {
      values = h;
      room = omega (arith, length-pieces q l ys u, stands-within bits place (pieces q l ys u) stands placed);
      one = λ k lt.
          let i : ℕ = high_place l k (get_or ys k 0) in
          let within : i < length ys + (u - 1) / 2 ^ l = omega (arith, place-within u (length ys) l ys h k lt) in
          stands-at bits place high i highs (omega arith) ∙ high_bit l u ys i within
          ∙ ap (λ b. cond b 1 0) (has_one-at l 0 i ys k lt (omega arith));
      only = λ i lt set.
          let bit : cond (has_one l 0 i ys) 1 0 ≡ 1 = sym (high_bit l u ys i lt) ∙ sym (stands-at bits place high i highs (omega arith)) ∙ set in
          let found = one_of-has_one l 0 i ys (set_bit (has_one l 0 i ys) bit) in
          (found.0, found.1, omega (arith, found.2));
      low = λ k lt.
          ap (λ p. field_at bits p l) (let e : place + low_fields_at u (length ys) l + l * k ≡ place + length high + l * k = omega arith in e)
          ∙ fields-stand bits (place + length high) l (low_parts l ys) lows k (omega (arith, length-map ys (λ y. y % 2 ^ l)))
          ∙ ap (λ v. v % 2 ^ l) (get_or-map (λ y. y % 2 ^ l) ys k 0 0 lt)
          ∙ mod-mod (get_or ys k 0) (2 ^ l);
      sample = λ j lt.
          let width : ℕ = digits (3 * length ys) in
          ap (λ p. field_at bits (p + width * j) width) (let e : place + low_fields_at u (length ys) l + l * length ys ≡ place + length (high ++ low) = omega arith in e)
          ∙ fields-stand bits (place + length (high ++ low)) width (sampled_places q l ys) rest j
          (let count : j < length (sampled_places q l ys) = omega (arith, length-map-range_with_len (λ i. high_place l (q * i) (slice_index ys (q * i))) 1 ((length ys - 1) / q)) in count)
          ∙ ap (λ v. v % 2 ^ width) (get_or-map-range_with_len (λ i. high_place l (q * i) (slice_index ys (q * i))) 1 ((length ys - 1) / q) j (j + 1) 0 lt (omega arith));
    }

-- a place that is read so holds the high bit
pub high-bit-read : (bits : List ℕ) (place u l q : ℕ) (ys : List ℕ) → EachBit bits → IsRead bits place u (length ys) l q ys
    → (i : ℕ) → i < length ys + (u - 1) / 2 ^ l → (b : Bool) → has_one l 0 i ys ≡ b → get_or bits (place + i) 0 ≡ cond b 1 0
high-bit-read bits place u l q ys each h i lt true e =
    let found = one_of-has_one l 0 i ys e in
    ap (λ p. get_or bits (place + p) 0) (let same : i ≡ high_place l found.0 (get_or ys found.0 0) = omega (arith, found.2) in same) ∙ h.one found.0 found.1
high-bit-read bits place u l q ys each h i lt false e =
    unset_bit (get_or bits (place + i) 0) (bit-below bits (place + i) each)
    (λ set.
    let found = h.only i lt set in
    let is : has_one l 0 i ys ≡ true = has_one-at l 0 i ys found.0 found.1 (omega (arith, found.2)) in
    cc)

-- and bits that are read so are the part's
pub pieces-read : (bits : List ℕ) (place u l q : ℕ) (ys : List ℕ) → EachBit bits → IsRead bits place u (length ys) l q ys → StandAt bits place (pieces q l ys u)
pieces-read bits place u l q ys each h =
    let high : List ℕ = high_bits l u ys in
    let low : List ℕ = low_fields l ys in
    let samples : List ℕ = ef_samples q l ys in
    let width : ℕ = digits (3 * length ys) in
    let count : ℕ = (length ys - 1) / q in
    let room = h.room in
    let high_count : length high ≡ length ys + (u - 1) / 2 ^ l = length-high_bits l u ys in
    let prefix_count : length (high ++ low) ≡ length ys + (u - 1) / 2 ^ l + l * length ys =
    omega (arith, length-append high low, length-low_fields l ys) in
    let parts_count : length (low_parts l ys) ≡ length ys = length-map ys (λ y. y % 2 ^ l) in
    let places_count : length (sampled_places q l ys) ≡ count = length-map-range_with_len (λ i. high_place l (q * i) (slice_index ys (q * i))) 1 count in
    let highs : StandAt bits place high = stands-from bits place high (omega arith)
    (λ i lt.
    let within : i < length ys + (u - 1) / 2 ^ l = omega arith in
    high-bit-read bits place u l q ys each h i within (has_one l 0 i ys) refl ∙ sym (high_bit l u ys i within)) in
    let lows : StandAt bits (place + length high) (flat_map (field_bits l) (low_parts l ys)) =
    stands-fields bits (place + length high) l (low_parts l ys) each (omega (arith, ap (λ n. l * n) parts_count))
    (λ i lt.
    let within : i < length ys = omega arith in
    ap (λ p. field_at bits p l) (let e : place + length high + l * i ≡ place + low_fields_at u (length ys) l + l * i = omega arith in e)
    ∙ h.low i within
    ∙ sym (ap (λ v. v % 2 ^ l) (get_or-map (λ y. y % 2 ^ l) ys i 0 0 within) ∙ mod-mod (get_or ys i 0) (2 ^ l))) in
    let rest : StandAt bits (place + length (high ++ low)) (flat_map (field_bits width) (sampled_places q l ys)) =
    stands-fields bits (place + length (high ++ low)) width (sampled_places q l ys) each (omega (arith, ap (λ n. width * n) places_count))
    (λ j lt.
    let within : j < count = omega arith in
    ap (λ p. field_at bits (p + width * j) width) (let e : place + length (high ++ low) ≡ place + low_fields_at u (length ys) l + l * length ys = omega arith in e)
    ∙ h.sample j within
    ∙ sym (ap (λ v. v % 2 ^ width) (get_or-map-range_with_len (λ i. high_place l (q * i) (slice_index ys (q * i))) 1 count j (j + 1) 0 within (omega arith)))) in
    stands-both bits place (high ++ low) samples
    (stands-both bits place high low highs (subst (λ xs. StandAt bits (place + length high) xs) (low_fields-are l ys) lows))
    (subst (λ xs. StandAt bits (place + length (high ++ low)) xs) (samples-are q l ys) rest)

-- both for what a view holds
pub read-held-count : (bits : List ℕ) (place u q : ℕ) (ys : List ℕ) → place ≤ length bits → HoldsPart (ef_bits q) bits place u (length ys) ys
    → IsRead bits place u (length ys) (low_width_of u (length ys)) q ys
read-held-count bits place u q ys placed h =
    read-pieces bits place u (low_width_of u (length ys)) q ys placed h.values (subst (λ xs. StandAt bits place xs) (part-is q u ys) h.stored)

pub read-held : (bits : List ℕ) (place u m q : ℕ) (ys : List ℕ) → place ≤ length bits → HoldsPart (ef_bits q) bits place u m ys
    → IsRead bits place u m (low_width_of u m) q ys
read-held bits place u m q ys placed h =
    subst (λ n. IsRead bits place u n (low_width_of u n) q ys) h.values.count
    (read-held-count bits place u q ys placed (subst (λ n. HoldsPart (ef_bits q) bits place u n ys) (sym h.values.count) h))

pub held-read-count : (bits : List ℕ) (place u q : ℕ) (ys : List ℕ) → EachBit bits → IsRead bits place u (length ys) (low_width_of u (length ys)) q ys
    → HoldsPart (ef_bits q) bits place u (length ys) ys
held-read-count bits place u q ys each h = record {
  values = h.values;
  stored = subst (λ xs. StandAt bits place xs) (sym (part-is q u ys)) (pieces-read bits place u (low_width_of u (length ys)) q ys each h);
}

pub held-read : (bits : List ℕ) (place u m q : ℕ) (ys : List ℕ) → EachBit bits → IsRead bits place u m (low_width_of u m) q ys
    → HoldsPart (ef_bits q) bits place u m ys
held-read bits place u m q ys each h =
    subst (λ n. HoldsPart (ef_bits q) bits place u n ys) h.values.count
    (held-read-count bits place u q ys each (subst (λ n. IsRead bits place u n (low_width_of u n) q ys) (sym h.values.count) h))

-- the number by the place of its one
joined : (y p high low : ℕ) → high ≡ y / p → low ≡ y % p → high * p + low ≡ y
joined y p high low h k = ap (λ n. n * p + low) h ∙ ap (λ n. y / p * p + n) k ∙ omega (arith, div-add-mod y p)

pub number-read : (bits : List ℕ) (place u m l q : ℕ) (ys : List ℕ) → IsRead bits place u m l q ys → (k one : ℕ) → k < m
    → one ≡ place + high_place l k (get_or ys k 0) → (one - place - k) * 2 ^ l + low_field bits place u m l k ≡ get_or ys k 0
number-read bits place u m l q ys h k one lt e = joined (get_or ys k 0) (2 ^ l) (one - place - k) (low_field bits place u m l k) (omega arith) (h.low k lt)
