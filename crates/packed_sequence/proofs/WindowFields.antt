-- Fields at the front of a window of bits.
use Rattle.std.proofs.Common.{◌≡◌, ℕ, ◌+◌, ◌-◌, ◌*◌, ◌/◌, ◌%◌, ◌^◌, ◌<◌, ◌≤◌, List, length, take, drop, slice_index, sym, ap, ◌∙◌, arith}
use Rattle.std.specs.Int.{bit_at}
use Rattle.std.proofs.Math.Nat.{mul-mod_left}
use Rattle.std.proofs.lemmas.Nat.{mod-pow-add, shl-shr}
use Rattle.std.proofs.lemmas.List.FromFn.{get_or-map-range_with_len}
use Rattle.bit_words.specs.Bits.{field_bits, bits_value, field_at}
use Rattle.bit_words.proofs.Value.{value-field_bits, length-field_bits}
use Rattle.bit_words.proofs.Pieces.{StandAt, stands-from}

-- The lowest bits of a word are those that stand at a place of others.
abbrev pub IsWindow : List ℕ → ℕ → ℕ → ℕ → Type 0
IsWindow bits at k w = (i : ℕ) → i < k → bit_at w i ≡ slice_index bits (at + i)

-- the first is its lowest
pub window-first : (bits : List ℕ) (at w : ℕ) → IsWindow bits at 64 w → w % 2 ≡ slice_index bits at
window-first bits at w is =
    let one : w / 2 ^ 0 % 2 ≡ slice_index bits at = is 0 (omega arith) ∙ ap (slice_index bits) (let e : at + 0 ≡ at = omega arith in e) in
    omega (arith, one)

-- and a field there its lowest bits
pub window-field : (bits : List ℕ) (at j w : ℕ) → IsWindow bits at 64 w → j ≤ 64 → at + j ≤ length bits → w % 2 ^ j ≡ field_at bits at j
window-field bits at j w is narrow fit =
    let size : length (field_bits j w) ≡ j = length-field_bits j w in
    let stands : StandAt bits at (field_bits j w) =
    stands-from bits at (field_bits j w) (omega (arith, size, fit))
    (λ i lt. sym (is i (omega (arith, size, lt, narrow))) ∙ sym (get_or-map-range_with_len (λ k. bit_at w k) 0 j i i 0 (omega (arith, size, lt)) (omega arith))) in
    sym (value-field_bits j w) ∙ ap bits_value (sym stands ∙ ap (λ k. take k (drop at bits)) size)

-- a word that is shifted up and back keeps its lowest bits
pub lowest-kept : (w j : ℕ) → j ≤ 64 → w * 2 ^ (64 - j) % 18446744073709551616 / 2 ^ (64 - j) ≡ w % 2 ^ j
lowest-kept w j narrow =
    let k : ℕ = 64 - j in
    let n : ℕ = w * 2 ^ k in
    let same : n / 2 ^ k % 2 ^ j ≡ w % 2 ^ j = ap (λ v. v % 2 ^ j) (shl-shr w k) in
    let whole : n % 2 ^ 64 ≡ w % 2 ^ j * 2 ^ k =
    ap (λ e. n % 2 ^ e) (let e : 64 ≡ j + k = omega (arith, narrow) in e) ∙ mod-pow-add n j k
    ∙ ap (λ v. v * 2 ^ k + n % 2 ^ k) same ∙ ap (λ z. w % 2 ^ j * 2 ^ k + z) (mul-mod_left w (2 ^ k))
    ∙ (let e : w % 2 ^ j * 2 ^ k + 0 ≡ w % 2 ^ j * 2 ^ k = omega arith in e) in
    ap (λ v. v / 2 ^ k) whole ∙ shl-shr (w % 2 ^ j) k
