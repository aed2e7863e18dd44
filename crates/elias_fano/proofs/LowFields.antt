-- The low fields of numbers, one behind another, and what they are joined to.
use Rattle.std.proofs.Common.{◌≡◌, ℕ, zero, suc, ◌+◌, ◌-◌, ◌*◌, ◌/◌, ◌%◌, ◌^◌, ◌<◌, ◌≤◌, List, length, ap, ◌∙◌, arith}
use Rattle.std.proofs.Math.Nat.{div-mul-le_self, mod-eq_of_lt, mul-le-mul_left, mul-le-mul_right}
use Rattle.bit_words.specs.Bits.{bits_of, field_at}
use Rattle.bit_words.proofs.Value.{bits-bits_of, two_pow-suc}
use Rattle.bit_words.proofs.Pieces.{field-below}
use Rattle.part_cost.specs.Payload.{widest_low, low_width_of}
use Rattle.part_cost.specs.Laws.{LowWidthIsBest}
use Rattle.elias_fano.specs.declared.EfView.{EfView}
use Rattle.elias_fano.specs.EfPlaces.{low_fields_at, low_field}
use Rattle.elias_fano.specs.EfView.{IsWithin}

short-at : (u m l : ℕ) → m ≤ u → ((k : ℕ) → k < l → 2 * m < (u - 1) / 2 ^ k) → m * 2 ^ l ≤ u
short-at u m zero fit many = omega arith
short-at u m (suc k) fit many =
    let more : (2 * m) * 2 ^ k ≤ (u - 1) / 2 ^ k * 2 ^ k = mul-le-mul_right (2 ^ k) (let e : 2 * m ≤ (u - 1) / 2 ^ k = omega (arith, many k (omega arith)) in e) in
    omega (arith, two_pow-suc k, ap (λ n. m * n) (two_pow-suc k), div-mul-le_self (u - 1) (2 ^ k))

-- As many numbers as a part has are as wide as its universe at most, where each is as wide as a low field reaches.
pub short : LowWidthIsBest → (u m : ℕ) → 1 ≤ m → m ≤ u → u ≤ 2 ^ widest_low → m * 2 ^ low_width_of u m ≤ u
short best u m some fit range = short-at u m (low_width_of u m) fit (best u m (omega arith) range).many

-- A number that is joined from a place among the high bits and a low field is small.
pub joined-below : (q : ℕ) (v : EfView q) (k one field : ℕ) → one < v.part.place + low_fields_at v.part.u v.part.m v.low → field < 2 ^ v.low
    → (one - v.part.place - k) * 2 ^ v.low + field < 2 ^ (widest_low + 1)
joined-below q v k one field below fits =
    let high : ℕ = one - v.part.place - k in
    let all : ℕ = (v.part.u - 1) / 2 ^ v.low in
    let some : high + 1 ≤ v.part.m + all = omega (arith, v.part.some) in
    let wide : (high + 1) * 2 ^ v.low ≤ (v.part.m + all) * 2 ^ v.low = mul-le-mul_right (2 ^ v.low) some in
    omega (arith, wide, div-mul-le_self (v.part.u - 1) (2 ^ v.low), v.short, v.part.in_range)

-- Its high part is no more than a word.
pub joined-high : (q : ℕ) (v : EfView q) (k one field : ℕ) → one < v.part.place + low_fields_at v.part.u v.part.m v.low → field < 2 ^ v.low
    → ((one - v.part.place - k) * 2 ^ v.low) % 2 ^ 64 ≡ (one - v.part.place - k) * 2 ^ v.low
joined-high q v k one field below fits = let small = joined-below q v k one field below fits in mod-eq_of_lt (omega arith)

-- The next field begins where this one ends.
pub next-field : (p l k : ℕ) → p + l * k + l ≡ p + l * (k + 1)
next-field p l k = omega arith

-- The low field of a number lies within the words.
pub field-within : (q : ℕ) (v : EfView q) (k : ℕ) → IsWithin q v → k < v.part.m
    → v.part.place + low_fields_at v.part.u v.part.m v.low + v.low * k + v.low ≤ 64 * length v.part.bits.words.now
field-within q v k within lt =
    let fit : v.low * (k + 1) ≤ v.low * v.part.m = mul-le-mul_left v.low (let e : k + 1 ≤ v.part.m = omega arith in e) in
    omega (arith, fit, within)

-- What is read there is its low field.
pub field-read : (q : ℕ) (v : EfView q) (k : ℕ) → {bits : List ℕ} {at width field : ℕ} → bits ≡ bits_of v.part.bits.words.now
    → at ≡ v.part.place + low_fields_at v.part.u v.part.m v.low + v.low * k → width ≡ v.low → field ≡ field_at bits at width
    → field ≡ low_field (bits_of v.part.bits.words.now) v.part.place v.part.u v.part.m v.low k
field-read q v k {at = at} {width = width} same place wide is =
    let bits : List ℕ = bits_of v.part.bits.words.now in
    is ∙ ap (λ xs. field_at xs at width) same ∙ ap (λ p. field_at bits p width) place
    ∙ ap (λ w. field_at bits (v.part.place + low_fields_at v.part.u v.part.m v.low + v.low * k) w) wide

pub low_field-below : (q : ℕ) (v : EfView q) (k : ℕ) → low_field (bits_of v.part.bits.words.now) v.part.place v.part.u v.part.m v.low k < 2 ^ v.low
low_field-below q v k =
    field-below (bits_of v.part.bits.words.now) (v.part.place + low_fields_at v.part.u v.part.m v.low + v.low * k) v.low (bits-bits_of v.part.bits.words.now)
