use Rattle.std.proofs.Common.{◌≡◌, ℕ, zero, suc, ◌+◌, ◌*◌, ◌/◌, ◌%◌, ◌^◌, ◌<◌, List, [], ◌∷◌, ◌++◌, length, take, drop, map, refl, sym, ap, ◌∙◌, arith}
use Rattle.std.specs.Int.{bit_at}
use Rattle.std.specs.List.{range_with_len}
use Rattle.std.proofs.lemmas.Nat.{shr-shr, mod-pow-add}
use Rattle.std.proofs.lemmas.Nat.Bits.{bit_at-lt}
use Rattle.std.proofs.lemmas.List.{length-append}
use Rattle.std.proofs.lemmas.List.FromFn.{length-map-range_with_len}
use Rattle.std.proofs.Math.Nat.{pow-succ', mul_assoc, zero-div, zero-mod}
use Rattle.bit_words.specs.Bits.{AreBits, field_bits, bits_of, bits_value}

-- numbers that are bits
abbrev pub EachBit : List ℕ → Type 0
EachBit [] = Unit {0}
EachBit (b ∷ bits) = (b < 2) × EachBit bits

-- said of them all at once
pub each_bit : (bits : List ℕ) → AreBits bits → EachBit bits
each_bit [] h = tt
each_bit (b ∷ bits) h = (h 0 0 (omega arith), each_bit bits (λ k d below. h (suc k) d (omega arith)))

pub two_pow-suc : (k : ℕ) → 2 ^ suc k ≡ 2 * 2 ^ k
two_pow-suc k = pow-succ' 2 k

-- the halves of a number whose lowest bit is b
pub half-bit : (b v : ℕ) → b < 2 → (b + 2 * v) / 2 ≡ v
half-bit b v h = omega arith

pub low-bit : (b v : ℕ) → b < 2 → (b + 2 * v) % 2 ≡ b
low-bit b v h = omega arith

-- a number halved and then shifted is shifted by one more
pub shift-suc : (n k : ℕ) → n / 2 ^ suc k ≡ n / 2 / 2 ^ k
shift-suc n k = sym (shr-shr n 1 k ∙ ap (λ i. n / 2 ^ i) (omega arith))

-- the lowest bits of a number: the lowest one, and those of its half
pub mod-suc-bit : (n k : ℕ) → n % 2 ^ suc k ≡ n % 2 + 2 * (n / 2 % 2 ^ k)
mod-suc-bit n k = ap (λ i. n % 2 ^ i) (let e : suc k ≡ k + 1 = omega arith in e) ∙ mod-pow-add n k 1 ∙ omega arith

-- a part of a sum of products, with its factors taken together
pub regroup_twice : (x v p b : ℕ) → x + 2 * (v + p * b) ≡ x + 2 * v + 2 * p * b
regroup_twice x v p b = omega (arith, mul_assoc 2 p b)

pub value-append : (a b : List ℕ) → bits_value (a ++ b) ≡ bits_value a + 2 ^ length a * bits_value b
value-append [] b = omega arith
value-append (x ∷ xs) b =
    ap (λ v. x + 2 * v) (value-append xs b)
    ∙ regroup_twice x (bits_value xs) (2 ^ length xs) (bits_value b)
    ∙ ap (λ p. x + 2 * bits_value xs + p * bits_value b) (sym (two_pow-suc (length xs)))

pub value-below : (bits : List ℕ) → EachBit bits → bits_value bits < 2 ^ length bits
value-below [] h = omega arith
value-below (b ∷ bits) h = omega (arith, value-below bits h.1, h.0, two_pow-suc (length bits))

pub value-drop : (k : ℕ) (bits : List ℕ) → EachBit bits → bits_value (drop k bits) ≡ bits_value bits / 2 ^ k
value-drop zero bits h = omega arith
value-drop (suc k) [] h = sym (zero-div (2 ^ suc k))
value-drop (suc k) (b ∷ bits) h =
    value-drop k bits h.1 ∙ ap (λ v. v / 2 ^ k) (sym (half-bit b (bits_value bits) h.0)) ∙ sym (shift-suc (b + 2 * bits_value bits) k)

pub value-take : (k : ℕ) (bits : List ℕ) → EachBit bits → bits_value (take k bits) ≡ bits_value bits % 2 ^ k
value-take zero bits h = omega arith
value-take (suc k) [] h = sym (zero-mod (2 ^ suc k))
value-take (suc k) (b ∷ bits) h =
    ap (λ v. b + 2 * v) (value-take k bits h.1)
    ∙ sym (mod-suc-bit (b + 2 * bits_value bits) k
    ∙ ap (λ v. (b + 2 * bits_value bits) % 2 + 2 * (v % 2 ^ k)) (half-bit b (bits_value bits) h.0)
    ∙ ap (λ v. v + 2 * (bits_value bits % 2 ^ k)) (low-bit b (bits_value bits) h.0))

-- the bits of a value from one place on
pub value-bits_from : (v a w : ℕ) → bits_value (map (λ i. bit_at v i) (range_with_len a w)) ≡ v / 2 ^ a % 2 ^ w
value-bits_from v a zero = omega arith
value-bits_from v a (suc w) =
    ap (λ n. bit_at v a + 2 * n) (value-bits_from v (a + 1) w)
    ∙ ap (λ n. bit_at v a + 2 * (n % 2 ^ w)) (sym (shr-shr v a 1))
    ∙ sym (mod-suc-bit (v / 2 ^ a) w)

pub value-field_bits : (w v : ℕ) → bits_value (field_bits w v) ≡ v % 2 ^ w
value-field_bits w v = value-bits_from v 0 w ∙ ap (λ n. n % 2 ^ w) (let e : v / 2 ^ 0 ≡ v = omega arith in e)

pub bits-bits_from : (v a w : ℕ) → EachBit (map (λ i. bit_at v i) (range_with_len a w))
bits-bits_from v a zero = tt
bits-bits_from v a (suc w) = (bit_at-lt v a, bits-bits_from v (a + 1) w)

pub bits-field_bits : (w v : ℕ) → EachBit (field_bits w v)
bits-field_bits w v = bits-bits_from v 0 w

pub length-field_bits : (w v : ℕ) → length (field_bits w v) ≡ w
length-field_bits w v = length-map-range_with_len (λ i. bit_at v i) 0 w

pub bits-append : (a b : List ℕ) → EachBit a → EachBit b → EachBit (a ++ b)
bits-append [] b h k = k
bits-append (x ∷ xs) b h k = (h.0, bits-append xs b h.1 k)

pub bits-take : (k : ℕ) (bits : List ℕ) → EachBit bits → EachBit (take k bits)
bits-take zero bits h = tt
bits-take (suc k) [] h = tt
bits-take (suc k) (b ∷ bits) h = (h.0, bits-take k bits h.1)

pub bits-drop : (k : ℕ) (bits : List ℕ) → EachBit bits → EachBit (drop k bits)
bits-drop zero bits h = h
bits-drop (suc k) [] h = tt
bits-drop (suc k) (b ∷ bits) h = bits-drop k bits h.1

-- bits of one length and one value are the same
pub same_bits : (a b : List ℕ) → EachBit a → EachBit b → length a ≡ length b → bits_value a ≡ bits_value b → a ≡ b
same_bits [] [] h k e v = refl
same_bits [] (y ∷ ys) h k e v = absurd (omega arith)
same_bits (x ∷ xs) [] h k e v = absurd (omega arith)
same_bits (x ∷ xs) (y ∷ ys) h k e v =
    let head : x ≡ y = omega (arith, h.0, k.0) in
    let rest : bits_value xs ≡ bits_value ys = omega (arith, h.0, k.0) in
    let tail : xs ≡ ys = same_bits xs ys h.1 k.1 (omega arith) rest in
    cc

pub bits-bits_of : (ws : List ℕ) → EachBit (bits_of ws)
bits-bits_of [] = tt
bits-bits_of (w ∷ ws) = bits-append (field_bits 64 w) (bits_of ws) (bits-field_bits 64 w) (bits-bits_of ws)

pub length-bits_of : (ws : List ℕ) → length (bits_of ws) ≡ 64 * length ws
length-bits_of [] = refl
length-bits_of (w ∷ ws) = omega (arith, length-append (field_bits 64 w) (bits_of ws), length-field_bits 64 w, length-bits_of ws)

pub value-bits_of_cons : (w : ℕ) (ws : List ℕ) → bits_value (bits_of (w ∷ ws)) ≡ w % 2 ^ 64 + 2 ^ 64 * bits_value (bits_of ws)
value-bits_of_cons w ws =
    value-append (field_bits 64 w) (bits_of ws)
    ∙ ap (λ v. v + 2 ^ length (field_bits 64 w) * bits_value (bits_of ws)) (value-field_bits 64 w)
    ∙ ap (λ n. w % 2 ^ 64 + 2 ^ n * bits_value (bits_of ws)) (length-field_bits 64 w)
