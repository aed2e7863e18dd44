-- Gamma codes that are read off a word.
use Rattle.std.proofs.Common.{◌≡◌, ℕ, ◌+◌, ◌-◌, ◌*◌, ◌/◌, ◌%◌, ◌^◌, ◌<◌, ◌≤◌, min, bit_and, List, length, take, drop, get_or, sym, ap, ◌∙◌, subst, inl, inr, arith}
use Rattle.std.specs.Int.{bit_at, w64, trailing_zeros}
use Rattle.std.specs.Int.Count.{trailing_of_zero}
use Rattle.std.proofs.lemmas.Bool.{cases_lt}
use Rattle.std.proofs.Math.Nat.{mod-eq_of_lt}
use Rattle.std.proofs.lemmas.Nat.{and_mask}
use Rattle.std.proofs.lemmas.Nat.Bits.{bit_at-zero, bit_at-trailing_zeros}
use Rattle.std.proofs.lemmas.List.FromFn.{get_or-map-range_with_len}
use Rattle.bit_words.specs.Bits.{IsFirstOne, field_bits, field_at}
use Rattle.bit_words.proofs.Value.{EachBit, value-take, value-drop, value-field_bits, bits-drop, bits-field_bits, length-field_bits}
use Rattle.bit_words.proofs.Pieces.{StandAt, stands-at, stands-from, field-below}
use Rattle.part_cost.specs.Payload.{digits}
use Rattle.packed_list.specs.Gamma.{gamma, gamma_length, IsGammaBefore, AreGammasBefore}
use Rattle.packed_list.proofs.GammaCodes.{some-digits, gamma-takes}
use Rattle.packed_sequence.proofs.LonePlaces.{piece-stands}
use Rattle.packed_sequence.proofs.WindowBits.{shifted-down}
use Rattle.packed_sequence.proofs.WindowFields.{IsWindow}
use Rattle.packed_list.proofs.GammaReads.{code-first, read-stands, behind-is, number-is}

-- a bit by its place from the first on
from-none : (bits : List ℕ) (i : ℕ) → get_or bits i 0 ≡ get_or bits (0 + i) 0
from-none bits i = ap (λ k. get_or bits k 0) (let e : i ≡ 0 + i = omega arith in e)

-- a bit of a word, and a field of it
word-bit : (w i : ℕ) → i < 64 → get_or (field_bits 64 w) i 0 ≡ bit_at w i
word-bit w i lt = get_or-map-range_with_len (λ j. bit_at w j) 0 64 i i 0 (omega (arith, lt)) (omega arith)

word-field : (w at j : ℕ) → w < 2 ^ 64 → field_at (field_bits 64 w) at j ≡ w / 2 ^ at % 2 ^ j
word-field w at j small =
    let bits : List ℕ = field_bits 64 w in
    let each : EachBit bits = bits-field_bits 64 w in
    value-take j (drop at bits) (bits-drop at bits each)
    ∙ ap (λ v. v % 2 ^ j) (value-drop at bits each ∙ ap (λ v. v / 2 ^ at) (value-field_bits 64 w ∙ mod-eq_of_lt small))

-- the lowest one of a word is the first of its bits
word-first : (w : ℕ) → 0 < w → w < 2 ^ 64 → trailing_zeros w64 w < 16 → IsFirstOne (field_bits 64 w) 0 (0 + min (31 - 0) 32) (trailing_zeros w64 w)
word-first w some small near =
    let z : ℕ = trailing_zeros w64 w in
    let lowest = bit_at-trailing_zeros w64 w some small in
    record {
      at_or_after = omega arith;
      before_end = omega (arith, near);
      one = word-bit w z (omega (arith, near)) ∙ lowest.1;
      first = λ q h lt. word-bit w q (omega (arith, near, lt)) ∙ lowest.2 q lt;
    }

-- the number that is read off its lowest bits
pub record IsLowest (w number behind : ℕ) : Type 0 where
  pub stands : IsGammaBefore (field_bits 64 w) 0 31 number
  pub length_is : behind ≡ gamma_length number

lowest-read : (w number behind : ℕ) → 0 < w → w < 2 ^ 64 → trailing_zeros w64 w < 16 → number ≡ 2 ^ trailing_zeros w64 w + w / 2 ^ (trailing_zeros w64 w + 1) % 2 ^ trailing_zeros w64 w
    → behind ≡ 2 * trailing_zeros w64 w + 1 → IsLowest w number behind
lowest-read w number behind some small near is long =
    let z : ℕ = trailing_zeros w64 w in
    let bits : List ℕ = field_bits 64 w in
    let each : EachBit bits = bits-field_bits 64 w in
    let f : ℕ = field_at bits (z + 1) z in
    let below : f < 2 ^ z = field-below bits (z + 1) z each in
    let stands : IsGammaBefore bits 0 31 (2 ^ z + f) = read-stands bits 0 31 z z each (word-first w some small near) (omega arith) (omega (arith, near)) (omega (arith, length-field_bits 64 w)) in
    let takes : z + 1 + z ≡ 0 + gamma_length (2 ^ z + f) = behind-is 0 z z f (omega arith) (omega (arith, near)) below in
    let value : 2 ^ z + f ≡ number = ap (λ v. 2 ^ z + v) (word-field w (z + 1) z small) ∙ sym is in
    subst (λ n. IsLowest w n behind) value (record { stands = stands; length_is = omega (arith, long, takes) })

-- none stands there where the lowest one is higher
pub lowest-none : (w n : ℕ) → w < 2 ^ 64 → 16 ≤ trailing_zeros w64 w → ¬ IsGammaBefore (field_bits 64 w) 0 31 n
lowest-none w n small far h =
    let first = code-first (field_bits 64 w) 0 31 n h in
    let y : ℕ = digits n - 1 in
    let one : bit_at w y ≡ 1 = sym (word-bit w y (omega (arith, first.within))) ∙ from-none (field_bits 64 w) y ∙ first.one in
    elim (cases_lt 0 w) [
      | inl some ↦ (let zeros = (bit_at-trailing_zeros w64 w some small).2 y (omega (arith, first.within, far)) in omega (arith, one, zeros))
      | inr none ↦ (let e : w ≡ 0 = omega (arith, none) in let zeros : bit_at w y ≡ 0 = ap (λ v. bit_at v y) e ∙ bit_at-zero y in omega (arith, one, zeros))
    ]

-- the number, as it is put together in a word
put-together : (v z : ℕ) → z < 16 → 1 * 2 ^ z % 18446744073709551616 + bit_and v (1 * 2 ^ z % 18446744073709551616 - 1) ≡ 2 ^ z + v % 2 ^ z
put-together v z near =
    let whole = number-is z 0 (omega (arith, near)) in
    let power : 1 * 2 ^ z % 18446744073709551616 ≡ 2 ^ z = omega (arith, whole) in
    ap (λ k. k + bit_and v (k - 1)) power ∙ ap (λ m. 2 ^ z + m) (and_mask v z)

some-one : (w : ℕ) → trailing_zeros w64 w < 16 → 0 < w
some-one w near = elim (cases_lt 0 w) [
  | inl some ↦ some
  | inr none ↦ absurd
      (let is : w ≡ 0 = omega (arith, none) in
      let all : trailing_zeros w64 w ≡ 64 = ap (trailing_zeros w64) is ∙ trailing_of_zero 64 in
      omega (arith, all, near))
]

pub lowest-is : (w r : ℕ) → w < 2 ^ 64 → trailing_zeros w64 w < 16 → r ≡ trailing_zeros w64 w
    → IsLowest w (1 * 2 ^ trailing_zeros w64 w % 18446744073709551616 + bit_and (w / 2 ^ (trailing_zeros w64 w + 1)) (1 * 2 ^ trailing_zeros w64 w % 18446744073709551616 - 1)) (2 * r + 1)
lowest-is w r small near is =
    let z : ℕ = trailing_zeros w64 w in
    lowest-read w (1 * 2 ^ z % 18446744073709551616 + bit_and (w / 2 ^ (z + 1)) (1 * 2 ^ z % 18446744073709551616 - 1)) (2 * r + 1) (some-one w near) small near (put-together (w / 2 ^ (z + 1)) z near) (ap (λ k. 2 * k + 1) is)

-- Those behind some of them are.
window-behind : (bits : List ℕ) (at k w i : ℕ) → IsWindow bits at k w → IsWindow bits (at + i) (k - i) (w / 2 ^ i)
window-behind bits at k w i is j lt =
    shifted-down w i j ∙ is (i + j) (omega (arith, lt)) ∙ ap (λ q. get_or bits q 0) (let e : at + (i + j) ≡ at + i + j = omega arith in e)

-- The code that is read off such a word stands there, where the bits go on so far.
window-stands : (bits : List ℕ) (at end k w n : ℕ) → IsWindow bits at k w → 31 ≤ k → IsGammaBefore (field_bits 64 w) 0 31 n → at + gamma_length n ≤ end → end ≤ length bits → IsGammaBefore bits at end n
window-stands bits at end k w n is long h within fit =
    let word : List ℕ = field_bits 64 w in
    let size : length (gamma n) ≡ gamma_length n = gamma-takes.count n h.some (omega (arith, h.few)) in
    let there : StandAt word 0 (gamma n) = piece-stands word 0 (gamma n) (subst (λ l. take (0 + l - 0) (drop 0 word) ≡ gamma n) (sym size) h.stands) in
    let here : StandAt bits at (gamma n) = stands-from bits at (gamma n) (omega (arith, size, within, fit))
    (λ i lt. sym (is i (omega (arith, lt, size, h.within, long))) ∙ sym (word-bit w i (omega (arith, lt, size, h.within))) ∙ from-none word i ∙ stands-at word 0 (gamma n) i there lt) in
    record {
      some = h.some;
      few = h.few;
      within = within;
      stands = ap (λ l. take l (drop at bits)) (let e : at + gamma_length n - at ≡ length (gamma n) = omega (arith, size) in e) ∙ here;
    }

-- and so do two that stand one behind the other
pub near-both : (bits : List ℕ) (at end w n m : ℕ) → IsWindow bits at 64 w → IsGammaBefore (field_bits 64 w) 0 31 n → IsGammaBefore (field_bits 64 (w / 2 ^ gamma_length n)) 0 31 m → at + gamma_length n + gamma_length m ≤ end → end ≤ length bits
    → AreGammasBefore bits at end n m
near-both bits at end w n m is first second within fit =
    let i : ℕ = gamma_length n in
    let rest : IsWindow bits (at + i) (64 - i) (w / 2 ^ i) = window-behind bits at 64 w i is in
    record {
      first = window-stands bits at end 64 w n is (omega arith) first (omega (arith, within)) fit;
      second = window-stands bits (at + i) end (64 - i) (w / 2 ^ i) m rest (omega (arith, first.within)) second within fit;
    }

-- some bits stand there
pub some-window : (bits : List ℕ) (at end a b : ℕ) → AreGammasBefore bits at end a b → at < end
some-window bits at end a b h = omega (arith, h.first.within, some-digits a h.first.some (omega (arith, h.first.few)))
