-- The bits of two words that are shifted together.
use Rattle.std.proofs.Common.{◌≡◌, ℕ, zero, suc, ◌+◌, ◌-◌, ◌*◌, ◌/◌, ◌%◌, ◌^◌, ◌<◌, ◌≤◌, max, min, bit_or, List, [], ◌∷◌, get_or, sym, ap, ◌∙◌, inl, inr, arith}
use Rattle.std.specs.Int.{bit_at}
use Rattle.std.proofs.lemmas.Bool.{cases_lt}
use Rattle.std.proofs.lemmas.Nat.{pow_pos, shr-shr, and_mask}
use Rattle.std.proofs.lemmas.Nat.Bits.{bit_at-zero, bit_at-lt, bit_at_and, bit_at_or, bit_at_ones, bit_at_above, bit_at_cat_low, bit_at_cat_high}
use Rattle.std.proofs.lemmas.List.{get_or_append_left, get_or-append_right}
use Rattle.std.proofs.lemmas.List.FromFn.{get_or-map-range_with_len}
use Rattle.bit_words.specs.Bits.{field_bits, bits_of}
use Rattle.bit_words.proofs.Value.{length-field_bits}

-- a bit of a word among the bits of words
bit-of : (ws : List ℕ) (p k : ℕ) → k < 64 → bit_at (get_or ws p 0) k ≡ get_or (bits_of ws) (64 * p + k) 0
bit-of [] p k lt = bit_at-zero k
bit-of (w ∷ ws) zero k lt =
    sym
    (get_or_append_left (field_bits 64 w) (bits_of ws) 0 (64 * 0 + k) (omega (arith, lt, length-field_bits 64 w))
    ∙ get_or-map-range_with_len (λ j. bit_at w j) 0 64 (64 * 0 + k) k 0 (omega (arith, lt)) (omega arith))
bit-of (w ∷ ws) (suc p) k lt =
    bit-of ws p k lt ∙ ap (λ q. get_or (bits_of ws) q 0) (let e : 64 * p + k ≡ 64 * suc p + k - 64 = omega arith in e)
    ∙ sym (get_or-append_right (field_bits 64 w) (bits_of ws) 64 (64 * suc p + k) 0 (length-field_bits 64 w) (omega arith))

-- bits of a number that is shifted down, and of one that is shifted up in a word
pub shifted-down : (v r i : ℕ) → bit_at (v / 2 ^ r) i ≡ bit_at v (r + i)
shifted-down v r i = ap (λ n. n % 2) (shr-shr v r i)

kept : (v n i : ℕ) → i < n → bit_at (v % 2 ^ n) i ≡ bit_at v i
kept v n i lt =
    let is : bit_at (v % 2 ^ n) i ≡ min (bit_at v i) (bit_at (2 ^ n - 1) i) = ap (λ w. bit_at w i) (sym (and_mask v n)) ∙ bit_at_and v (2 ^ n - 1) i in
    omega (arith, is, bit_at_ones n i lt, bit_at-lt v i)

up-low : (m s i : ℕ) → i < 64 → i < s → bit_at (m * 2 ^ s % 2 ^ 64) i ≡ 0
up-low m s i lt low =
    kept (m * 2 ^ s) 64 i lt ∙ ap (λ n. bit_at n i) (let e : m * 2 ^ s ≡ m * 2 ^ s + 0 = omega arith in e) ∙ bit_at_cat_low m s 0 i low ∙ bit_at-zero i

up-high : (m s i : ℕ) → i < 64 → s ≤ i → bit_at (m * 2 ^ s % 2 ^ 64) i ≡ bit_at m (i - s)
up-high m s i lt high =
    kept (m * 2 ^ s) 64 i lt ∙ ap (λ n. bit_at n i) (let e : m * 2 ^ s ≡ m * 2 ^ s + 0 = omega arith in e) ∙ bit_at_cat_high m s 0 i (pow_pos s) high

-- the next word above what is left of one
next-above : (h r i : ℕ) → r < 64 → i < 64 → 64 ≤ r + i → bit_at (h * 2 ^ 1 % 2 ^ 64 * 2 ^ (63 - r) % 2 ^ 64) i ≡ bit_at h (r + i - 64)
next-above h r i part lt over =
    let s : ℕ = 63 - r in
    let j : ℕ = i - s in
    up-high (h * 2 ^ 1 % 2 ^ 64) s i lt (omega (arith, part, over)) ∙ up-high h 1 j (omega (arith, lt)) (omega (arith, part, over))
    ∙ ap (bit_at h) (let e : j - 1 ≡ r + i - 64 = omega (arith, part, over) in e)

next-below : (h r i : ℕ) → r < 64 → i < 64 → r + i < 64 → bit_at (h * 2 ^ 1 % 2 ^ 64 * 2 ^ (63 - r) % 2 ^ 64) i ≡ 0
next-below h r i part lt under =
    let s : ℕ = 63 - r in
    elim (cases_lt i s) [
      | inl low ↦ up-low (h * 2 ^ 1 % 2 ^ 64) s i lt low
      | inr high ↦
          let same : i - s ≡ 0 = omega (arith, high, under, part) in
          up-high (h * 2 ^ 1 % 2 ^ 64) s i lt high ∙ ap (bit_at (h * 2 ^ 1 % 2 ^ 64)) same ∙ up-low h 1 0 (omega arith) (omega arith)
    ]

pub window-bits : (ws : List ℕ) (at h : ℕ) → get_or ws (at / 64) 0 < 2 ^ 64 → h ≡ get_or ws (at / 64 + 1) 0 → (i : ℕ) → i < 64
    → bit_at (bit_or (get_or ws (at / 64) 0 / 2 ^ (at % 64)) (h * 2 ^ 1 % 2 ^ 64 * 2 ^ (63 - at % 64) % 2 ^ 64)) i ≡ get_or (bits_of ws) (at + i) 0
window-bits ws at h small is i lt =
    let r : ℕ = at % 64 in
    let p : ℕ = at / 64 in
    let lo : ℕ = get_or ws p 0 in
    let above : ℕ = h * 2 ^ 1 % 2 ^ 64 * 2 ^ (63 - r) % 2 ^ 64 in
    let both : bit_at (bit_or (lo / 2 ^ r) above) i ≡ max (bit_at (lo / 2 ^ r) i) (bit_at above i) = bit_at_or (lo / 2 ^ r) above i in
    let part : r < 64 = omega arith in
    elim (cases_lt (r + i) 64) [
      | inl under ↦
          let low : bit_at (lo / 2 ^ r) i ≡ get_or (bits_of ws) (at + i) 0 =
          shifted-down lo r i ∙ bit-of ws p (r + i) under ∙ ap (λ q. get_or (bits_of ws) q 0) (let e : 64 * p + (r + i) ≡ at + i = omega arith in e) in
          omega (arith, both, low, next-below h r i part lt under)
      | inr over ↦
          let none : bit_at (lo / 2 ^ r) i ≡ 0 = shifted-down lo r i ∙ bit_at_above lo 64 (r + i) small over in
          let high : bit_at above i ≡ get_or (bits_of ws) (at + i) 0 =
          next-above h r i part lt over ∙ ap (λ w. bit_at w (r + i - 64)) is ∙ bit-of ws (p + 1) (r + i - 64) (omega (arith, part, lt))
          ∙ ap (λ q. get_or (bits_of ws) q 0) (let e : 64 * (p + 1) + (r + i - 64) ≡ at + i = omega (arith, over) in e) in
          omega (arith, both, none, high)
    ]
