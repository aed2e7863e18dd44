use Rattle.std.proofs.Common.{◌≡◌, ℕ, zero, suc, ◌+◌, ◌-◌, ◌*◌, ◌/◌, ◌%◌, ◌^◌, ◌<◌, ◌≤◌, List, [], ◌∷◌, length, get_or, refl, sym, ap, ◌∙◌, arith}
use Rattle.std.specs.Int.{bit_at}
use Rattle.std.specs.Int.Bits.{bit_xor, xor_zero_r}
use Rattle.std.proofs.lemmas.List.{length-map, get_or-map}
use Rattle.std.proofs.lemmas.Nat.Bits.{bit_at-lt, bit_at_ones, bit_at_xor}
use Rattle.bit_words.specs.Bits.{bits_of, ones_between, IsNthOne, IsNthZero, flipped}
use Rattle.bit_words.proofs.Value.{length-bits_of}
use Rattle.bit_words.proofs.Ranges.{field-one, ones_between-more}
use Rattle.bit_words.proofs.WordRanges.{bit-of_word, ones-none}

-- the words whose bits are exchanged: each is the word, exchanged, and there are as many
pub flipped-length : (flip : ℕ) (ws : List ℕ) → length (flipped flip ws) ≡ length ws
flipped-length flip ws = length-map ws (λ w. bit_xor w flip)

pub flipped-word : (flip : ℕ) (ws : List ℕ) (i : ℕ) → i < length ws → get_or (flipped flip ws) i 0 ≡ bit_xor (get_or ws i 0) flip
flipped-word flip ws i h = get_or-map (λ w. bit_xor w flip) ws i 0 0 h

-- Nothing is exchanged by 0.
pub flipped-none : (ws : List ℕ) → flipped 0 ws ≡ ws
flipped-none [] = refl
flipped-none (w ∷ ws) = ap (λ xs. bit_xor w 0 ∷ xs) (flipped-none ws) ∙ ap (λ v. v ∷ ws) (xor_zero_r w)

abbrev pub opposite : List ℕ → List ℕ
opposite ws = flipped (2 ^ 64 - 1) ws

-- Each bit is exchanged by ones.
pub opposite-bit : (ws : List ℕ) (p : ℕ) → p < 64 * length ws → get_or (bits_of (opposite ws)) p 0 + get_or (bits_of ws) p 0 ≡ 1
opposite-bit ws p h =
    let i : ℕ = p / 64 in
    let k : ℕ = p % 64 in
    let below : k < 64 = omega arith in
    let place : 64 * i + k ≡ p = omega arith in
    let w : ℕ = get_or ws i 0 in
    let there : get_or (bits_of (opposite ws)) p 0 ≡ bit_at (bit_xor w (2 ^ 64 - 1)) k =
    ap (λ q. get_or (bits_of (opposite ws)) q 0) (sym place)
    ∙ bit-of_word (opposite ws) i k below ∙ ap (λ v. bit_at v k) (flipped-word (2 ^ 64 - 1) ws i (omega arith)) in
    let here : get_or (bits_of ws) p 0 ≡ bit_at w k = ap (λ q. get_or (bits_of ws) q 0) (sym place) ∙ bit-of_word ws i k below in
    omega (arith, there, here, bit_at_xor w (2 ^ 64 - 1) k, bit_at_ones 64 k below, bit_at-lt w k)

opposite-by : (ws : List ℕ) (from n : ℕ) → from + n ≤ 64 * length ws → ones_between (bits_of (opposite ws)) from (from + n) + ones_between (bits_of ws) from (from + n) ≡ n
opposite-by ws from zero fit =
    let e : from + 0 ≡ from = omega arith in
    omega (arith, ap (ones_between (bits_of (opposite ws)) from) e, ap (ones_between (bits_of ws) from) e, ones-none (bits_of (opposite ws)) from, ones-none (bits_of ws) from)
opposite-by ws from (suc n) fit =
    let p : ℕ = from + n in
    let e : from + suc n ≡ p + 1 = omega arith in
    omega (
      arith,
      ap (ones_between (bits_of (opposite ws)) from) e,
      ap (ones_between (bits_of ws) from) e,
      ones_between-more (bits_of (opposite ws)) from p (omega arith) (omega (arith, length-bits_of (opposite ws), flipped-length (2 ^ 64 - 1) ws)),
      ones_between-more (bits_of ws) from p (omega arith) (omega (arith, length-bits_of ws)),
      field-one (bits_of (opposite ws)) p,
      field-one (bits_of ws) p,
      opposite-bit ws p (omega arith),
      opposite-by ws from n (omega arith),
    )

-- The exchanged bits that are 1 in a range are those that were 0.
pub opposite-ones : (ws : List ℕ) (from to : ℕ) → from ≤ to → to ≤ 64 * length ws → ones_between (bits_of (opposite ws)) from to + ones_between (bits_of ws) from to ≡ to - from
opposite-ones ws from to h fit =
    let e : from + (to - from) ≡ to = omega arith in
    omega (arith, ap (ones_between (bits_of (opposite ws)) from) e, ap (ones_between (bits_of ws) from) e, opposite-by ws from (to - from) (omega arith))

pub opposite-nth : (ws : List ℕ) (from to n p : ℕ) → to ≤ 64 * length ws → IsNthOne (bits_of (opposite ws)) from to n p → IsNthZero (bits_of ws) from to n p
opposite-nth ws from to n p fit is = record {
  at_or_after = is.at_or_after;
  before_end = is.before_end;
  zero = omega (arith, is.one, opposite-bit ws p (omega (arith, is.before_end)));
  before = omega (arith, is.before, is.at_or_after, opposite-ones ws from p is.at_or_after (omega (arith, is.before_end)));
}
