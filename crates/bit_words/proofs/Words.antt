use Rattle.std.proofs.Common.{◌≡◌, ℕ, zero, suc, ◌+◌, ◌-◌, ◌*◌, ◌/◌, ◌%◌, ◌^◌, ◌<◌, ◌≤◌, List, [], ◌∷◌, drop, get_or, refl, sym, ap, subst, ◌∙◌, arith, bit_and, bit_or, Option, Some, None, SomeIff}
use Rattle.std.proofs.lemmas.Nat.{pow_pos, pow-add, shr-shr, shl-shr, and_mask, mod-pow-add, mod_below}
use Rattle.std.proofs.Math.Pow.{mod-mod-pow, shr_mod}
use Rattle.std.proofs.Math.Nat.{zero-div, mul_assoc, mul-mod_left, add-mul-div_left, add-mul-mod_self_left}
use Rattle.std.specs.Int.Bits.{or_shifted_r}
use Rattle.std.proofs.lemmas.List.{get_or-drop}
use Rattle.std.proofs.lemmas.Nat.Bits.{ones_shr}
use Rattle.std.specs.Option.{unwrap_or}
use Rattle.bit_words.specs.Bits.{bits_of, bits_value, field_at}
use Rattle.bit_words.proofs.Value.{EachBit, value-drop, value-take, value-bits_of_cons, bits-bits_of, bits-drop}

-- the bits from word k on
pub value-words_from : (k : ℕ) (ws : List ℕ) → bits_value (bits_of ws) / 2 ^ (64 * k) ≡ bits_value (bits_of (drop k ws))
value-words_from zero ws = omega arith
value-words_from (suc k) [] = zero-div (2 ^ (64 * suc k))
value-words_from (suc k) (w ∷ ws) =
    ap (λ i. bits_value (bits_of (w ∷ ws)) / 2 ^ i) (let e : 64 * suc k ≡ 64 + 64 * k = omega arith in e)
    ∙ sym (shr-shr (bits_value (bits_of (w ∷ ws))) 64 (64 * k))
    ∙ ap (λ v. v / 2 ^ 64 / 2 ^ (64 * k)) (value-bits_of_cons w ws)
    ∙ ap (λ v. v / 2 ^ (64 * k)) (let e : (w % 2 ^ 64 + 2 ^ 64 * bits_value (bits_of ws)) / 2 ^ 64 ≡ bits_value (bits_of ws) = omega arith in e)
    ∙ value-words_from k ws

-- the first word, and those behind it
pub value-first_word : (ws : List ℕ) → bits_value (bits_of ws) ≡ get_or ws 0 0 % 2 ^ 64 + 2 ^ 64 * bits_value (bits_of (drop 1 ws))
value-first_word [] = refl
value-first_word (w ∷ ws) = value-bits_of_cons w ws

-- a field that ends within some bits is a field of these
pub field-inside : (p rest n r width s : ℕ) → r + width + s ≡ n → (p + 2 ^ n * rest) / 2 ^ r % 2 ^ width ≡ p / 2 ^ r % 2 ^ width
field-inside p rest n r width s e =
    let power : 2 ^ n ≡ 2 ^ r * 2 ^ width * 2 ^ s = ap (λ i. 2 ^ i) (sym e) ∙ pow-add 2 (r + width) s ∙ ap (λ v. v * 2 ^ s) (pow-add 2 r width) in
    ap (λ v. (p + v * rest) / 2 ^ r % 2 ^ width) power
    ∙ ap (λ v. (p + v) / 2 ^ r % 2 ^ width) (mul_assoc (2 ^ r * 2 ^ width) (2 ^ s) rest ∙ mul_assoc (2 ^ r) (2 ^ width) (2 ^ s * rest))
    ∙ ap (λ v. v % 2 ^ width) (add-mul-div_left p (2 ^ width * (2 ^ s * rest)) (pow_pos r))
    ∙ add-mul-mod_self_left (p / 2 ^ r) (2 ^ width) (2 ^ s * rest)

pub value-field : (bits : List ℕ) (at width : ℕ) → EachBit bits → field_at bits at width ≡ bits_value bits / 2 ^ at % 2 ^ width
value-field bits at width h = value-take width (drop at bits) (bits-drop at bits h) ∙ ap (λ v. v % 2 ^ width) (value-drop at bits h)

-- a field that ends within one word is a field of this word
pub field-one_word : (ws : List ℕ) (at width : ℕ) → at % 64 + width ≤ 64 → field_at (bits_of ws) at width ≡ get_or ws (at / 64) 0 % 2 ^ 64 / 2 ^ (at % 64) % 2 ^ width
field-one_word ws at width h =
    let value : ℕ = bits_value (bits_of ws) in
    let xs : List ℕ = drop (at / 64) ws in
    let rest : ℕ = bits_value (bits_of (drop 1 xs)) in
    let first : get_or xs 0 0 ≡ get_or ws (at / 64) 0 = get_or-drop (at / 64) ws 0 0 ∙ ap (λ i. get_or ws i 0) (let e : at / 64 + 0 ≡ at / 64 = omega arith in e) in
    value-field (bits_of ws) at width (bits-bits_of ws)
    ∙ ap (λ i. value / 2 ^ i % 2 ^ width) (let e : at ≡ 64 * (at / 64) + at % 64 = omega arith in e)
    ∙ ap (λ v. v % 2 ^ width) (sym (shr-shr value (64 * (at / 64)) (at % 64)))
    ∙ ap (λ v. v / 2 ^ (at % 64) % 2 ^ width) (value-words_from (at / 64) ws ∙ value-first_word xs ∙ ap (λ w. w % 2 ^ 64 + 2 ^ 64 * rest) first)
    ∙ field-inside (get_or ws (at / 64) 0 % 2 ^ 64) rest 64 (at % 64) width (64 - (at % 64 + width)) (omega arith)

-- what a field within one word computes to
pub field-masked : (ws : List ℕ) (at width w mask : ℕ) → w ≡ get_or ws (at / 64) 0 → w < 2 ^ 64 → at % 64 + width ≤ 64 → mask ≡ 2 ^ width - 1
    → bit_and (w / 2 ^ (at % 64)) mask ≡ field_at (bits_of ws) at width
field-masked ws at width w mask is small fit ones =
    ap (λ m. bit_and (w / 2 ^ (at % 64)) m) ones
    ∙ and_mask (w / 2 ^ (at % 64)) width
    ∙ ap (λ v. v / 2 ^ (at % 64) % 2 ^ width) (let e : w ≡ get_or ws (at / 64) 0 % 2 ^ 64 = omega arith in e)
    ∙ sym (field-one_word ws at width fit)

-- the rest of a word from a place on
pub word-rest : (ws : List ℕ) (at w : ℕ) → w ≡ get_or ws (at / 64) 0 → w < 2 ^ 64 → w / 2 ^ (at % 64) ≡ field_at (bits_of ws) at (64 - at % 64)
word-rest ws at w is small =
    let r : ℕ = at % 64 in
    let whole : 64 - r + r ≡ 64 = omega arith in
    sym (shr_mod {n = w} (64 - r) r (subst (λ n. w < 2 ^ n) (sym whole) small))
    ∙ ap (λ v. v / 2 ^ r % 2 ^ (64 - r)) (let e : w ≡ get_or ws (at / 64) 0 % 2 ^ 64 = omega arith in e)
    ∙ sym (field-one_word ws at (64 - r) (omega arith))

-- a field that begins with the last bits of one word and goes on in the next
pub field-across : (ws : List ℕ) (next left width rest w mask : ℕ) → left ≤ 64 * next → left ≤ width → width ≤ 64 → rest ≡ field_at (bits_of ws) (64 * next - left) left
    → w ≡ get_or ws next 0 → w < 2 ^ 64 → mask ≡ 2 ^ width - 1 → bit_or rest (bit_and (w * 2 ^ left % 2 ^ 64) mask) ≡ field_at (bits_of ws) (64 * next - left) width
field-across ws next left width rest w mask some less most value is small ones =
    let at : ℕ = 64 * next - left in
    let high : ℕ = width - left in
    let n : ℕ = bits_value (bits_of ws) / 2 ^ at in
    let a : ℕ = w % 2 ^ (64 - left) in
    let both : high + left ≡ width = omega arith in
    let rest_is : rest ≡ n % 2 ^ left = value ∙ value-field (bits_of ws) at left (bits-bits_of ws) in
    let below : rest < 2 ^ left = subst (λ v. v < 2 ^ left) (sym rest_is) (mod_below n (2 ^ left) (pow_pos left)) in
    let shifted : w * 2 ^ left % 2 ^ 64 ≡ a * 2 ^ left =
    ap (λ k. w * 2 ^ left % 2 ^ k) (let e : 64 ≡ 64 - left + left = omega arith in e)
    ∙ mod-pow-add (w * 2 ^ left) (64 - left) left
    ∙ ap (λ v. v % 2 ^ (64 - left) * 2 ^ left + w * 2 ^ left % 2 ^ left) (shl-shr w left)
    ∙ omega (arith, mul-mod_left w (2 ^ left)) in
    let top : a % 2 ^ high ≡ w % 2 ^ high =
    ap (λ k. w % 2 ^ k % 2 ^ high) (let e : 64 - left ≡ 64 - width + high = omega arith in e) ∙ mod-mod-pow w (64 - width) high in
    let masked : bit_and (w * 2 ^ left % 2 ^ 64) mask ≡ w % 2 ^ high * 2 ^ left =
    ap (λ m. bit_and (w * 2 ^ left % 2 ^ 64) m) ones
    ∙ and_mask (w * 2 ^ left % 2 ^ 64) width
    ∙ ap (λ v. v % 2 ^ width) shifted
    ∙ ap (λ k. a * 2 ^ left % 2 ^ k) (sym both)
    ∙ mod-pow-add (a * 2 ^ left) high left
    ∙ ap (λ v. v % 2 ^ high * 2 ^ left + a * 2 ^ left % 2 ^ left) (shl-shr a left)
    ∙ ap (λ v. v * 2 ^ left + a * 2 ^ left % 2 ^ left) top
    ∙ omega (arith, mul-mod_left a (2 ^ left)) in
    let place : at + left ≡ 64 * next = omega arith in
    let word : (64 * next) / 64 ≡ next = omega arith in
    let first : (64 * next) % 64 ≡ 0 = omega arith in
    let w_is : w ≡ get_or ws ((64 * next) / 64) 0 % 2 ^ 64 / 2 ^ ((64 * next) % 64) =
    (let e : w ≡ get_or ws next 0 % 2 ^ 64 = omega arith in e) ∙ ap (λ i. get_or ws i 0 % 2 ^ 64) (sym word) ∙ start (get_or ws ((64 * next) / 64) 0 % 2 ^ 64) ((64 * next) % 64) first in
    let later : n / 2 ^ left % 2 ^ high ≡ w % 2 ^ high =
    ap (λ v. v % 2 ^ high) (shr-shr (bits_value (bits_of ws)) at left)
    ∙ ap (λ k. bits_value (bits_of ws) / 2 ^ k % 2 ^ high) place
    ∙ sym (value-field (bits_of ws) (64 * next) high (bits-bits_of ws))
    ∙ field-one_word ws (64 * next) high (omega arith)
    ∙ ap (λ v. v % 2 ^ high) (sym w_is) in
    ap (λ v. bit_or rest v) masked
    ∙ or_shifted_r (w % 2 ^ high) left rest below
    ∙ ap (λ v. v * 2 ^ left + rest) (sym later)
    ∙ ap (λ v. n / 2 ^ left % 2 ^ high * 2 ^ left + v) rest_is
    ∙ sym (mod-pow-add n high left)
    ∙ ap (λ k. n % 2 ^ k) both
    ∙ sym (value-field (bits_of ws) at width (bits-bits_of ws))
  where
    start : (v r : ℕ) → r ≡ 0 → v ≡ v / 2 ^ r
    start v r none = sym (ap (λ k. v / 2 ^ k) none ∙ (let e : v / 2 ^ 0 ≡ v = omega arith in e))

-- the field that is got where it goes on in the next word
pub got_across : (ws : List ℕ) (at width lo hi mask : ℕ) → lo ≡ get_or ws (at / 64) 0 → hi ≡ get_or ws (at / 64 + 1) 0 → lo < 2 ^ 64 → hi < 2 ^ 64 → 64 < at % 64 + width → width ≤ 64
    → mask ≡ 2 ^ width - 1 → bit_or (lo / 2 ^ (at % 64)) (bit_and (hi * 2 ^ (64 - at % 64) % 2 ^ 64) mask) ≡ field_at (bits_of ws) at width
got_across ws at width lo hi mask low high lo_small hi_small more most ones =
    let next : ℕ = at / 64 + 1 in
    let left : ℕ = 64 - at % 64 in
    let here : 64 * next - left ≡ at = omega arith in
    field-across ws next left width (lo / 2 ^ (at % 64)) hi mask (omega arith) (omega arith) most
    (word-rest ws at lo low lo_small ∙ ap (λ p. field_at (bits_of ws) p left) (sym here))
    high hi_small ones
    ∙ ap (λ p. field_at (bits_of ws) p width) here

-- a word's lowest ones, by a shift that gives nothing where it is as wide as a word
pub lowest-ones : (shifted : Option ℕ) (width : ℕ) → width ≤ 64 → SomeIff shifted (64 - width < 64) ((2 ^ 64 - 1) / 2 ^ (64 - width)) → unwrap_or shifted 0 ≡ 2 ^ width - 1
lowest-ones None zero h none = omega arith
lowest-ones None (suc n) h none = absurd (none (omega arith))
lowest-ones (Some m) width h is = is.1 ∙ ones_shr 64 (64 - width) (omega arith) ∙ ap (λ n. 2 ^ n - 1) (let e : 64 - (64 - width) ≡ width = omega arith in e)
