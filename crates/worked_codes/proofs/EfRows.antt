use Rattle.std.proofs.Common.{◌≡◌, refl, ℕ, List, [], ◌∷◌, length, map, get_or, ◌+◌, ◌-◌, ◌*◌, ◌/◌, ◌^◌, ◌<◌, ◌≤◌, arith}
use Rattle.std.specs.List.{range_with_len}
use Rattle.std.proofs.lemmas.List.FromFn.{length-map-range_with_len, get_or-map-range_with_len}
use Rattle.std.proofs.Math.Nat.{mul-le-mul_right, div-le_self}
use Rattle.bit_words.specs.Bits.{field_at, words_of}
use Rattle.part_cost.specs.Payload.{digits, widest_low, low_width_of}
use Rattle.part_cost.specs.Span.{AreRelative}
use Rattle.part_cost.specs.Laws.{LowWidthIsBest}
use Rattle.elias_fano.specs.EfBits.{ef_bits, high_bits, low_fields}
use Rattle.elias_fano.specs.EfPlaces.{ef_length}
use Rattle.elias_fano.proofs.Rising.{relative-fit}
use Rattle.elias_fano.proofs.Reading.{length-part}

-- 3, 700: four high bits and two low fields
bits-701 : words_of (ef_bits 128 (3 ∷ 700 ∷ []) 701) ≡ 770105 ∷ []
unfolding ef_bits low_width_of
bits-701 = refl

high-701 : high_bits 8 701 (3 ∷ 700 ∷ []) ≡ 1 ∷ 0 ∷ 0 ∷ 1 ∷ []
high-701 = refl

-- 0, 10, 20 with a sample every two numbers
length-21 : length (ef_bits 2 (0 ∷ 10 ∷ 20 ∷ []) 21) ≡ 18
unfolding ef_bits low_width_of lib.Count.count_leading_zeros
length-21 = refl

word-21 : words_of (ef_bits 2 (0 ∷ 10 ∷ 20 ∷ []) 21) ≡ 116873 ∷ []
unfolding ef_bits low_width_of lib.Count.count_leading_zeros
word-21 = refl

-- 0, 10, 20, .., 1280
abbrev tens : List ℕ
tens = map (λ k. 10 * k) (range_with_len 0 129)

length-1281 : length (ef_bits 128 tens 1281) ≡ 685
unfolding ef_bits low_width_of lib.Count.count_leading_zeros
length-1281 = refl

sample-1281 : field_at (ef_bits 128 tens 1281) 676 9 ≡ 288
unfolding ef_bits low_width_of lib.Count.count_leading_zeros
sample-1281 = refl

high-1281 : length (high_bits 3 1281 tens) ≡ 289
high-1281 = refl

low-1281 : length (low_fields 3 tens) ≡ 387
low-1281 = refl

-- the widest number alone: two high bits and a low field of 47 bits
length-widest : length (ef_bits 128 (281474976710655 ∷ []) (2 ^ 48)) ≡ 49
unfolding ef_bits low_width_of lib.Count.count_leading_zeros
length-widest = refl

word-widest : words_of (ef_bits 128 (281474976710655 ∷ []) (2 ^ 48)) ≡ 562949953421310 ∷ []
unfolding ef_bits low_width_of lib.Count.count_leading_zeros
word-widest = refl

-- with 0 before it: five high bits and two low fields of 46 bits, the second across two words
length-widest-two : length (ef_bits 128 (0 ∷ 281474976710655 ∷ []) (2 ^ 48)) ≡ 97
unfolding ef_bits low_width_of lib.Count.count_leading_zeros
length-widest-two = refl

words-widest-two : words_of (ef_bits 128 (0 ∷ 281474976710655 ∷ []) (2 ^ 48)) ≡ 18444492273895866385 ∷ 8589934591 ∷ []
unfolding ef_bits low_width_of lib.Count.count_leading_zeros
words-widest-two = refl

-- runs of 70 numbers in a row, each 1,000 after the one before
abbrev pub runs_of_70 : ℕ → List ℕ
runs_of_70 n = map (λ k. k + 930 * (k / 70)) (range_with_len 0 n)

run-number : (n k : ℕ) → k < n → get_or (runs_of_70 n) k 0 ≡ k + 930 * (k / 70)
run-number n k lt = get_or-map-range_with_len (λ k. k + 930 * (k / 70)) 0 n k k 0 lt (omega arith)

pub relative-runs : (n : ℕ) → 1 ≤ n → AreRelative (n + 930 * ((n - 1) / 70)) n (runs_of_70 n)
relative-runs n some =
    let count : length (runs_of_70 n) ≡ n = length-map-range_with_len (λ k. k + 930 * (k / 70)) 0 n in
    record {
      rising = λ k lt. omega (arith, run-number n k (omega arith), run-number n (k + 1) (omega arith));
      count = count;
      some = omega arith;
      last = omega (arith, run-number n (n - 1) (omega arith));
    }

-- a part of a few thousand numbers is short, at any spacing of its samples
pub few-bits : (q : ℕ) → LowWidthIsBest → (u : ℕ) (ys : List ℕ) → u ≤ 2 ^ widest_low → AreRelative u (length ys) ys → length ys ≤ 5000 → length (ef_bits q ys u) < 2 ^ 62
unfolding ef_length
few-bits q best u ys fit h few =
    let m : ℕ = length ys in
    let l : ℕ = low_width_of u m in
    let is = best u m (let some : 1 ≤ u = omega (arith, relative-fit u m ys h, h.some) in some) fit in
    let low : m * l ≤ 5000 * l = mul-le-mul_right l few in
    let count : (m - 1) / q ≤ 5000 = omega (arith, div-le_self (m - 1) q) in
    let samples : (m - 1) / q * digits (3 * m) ≤ 5000 * digits (3 * m) = mul-le-mul_right (digits (3 * m)) count in
    let width : digits (3 * m) ≤ 64 = omega arith in
    omega (arith, length-part q u ys, is.within, is.few)
