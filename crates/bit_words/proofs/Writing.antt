use Rattle.std.proofs.Common.{◌≡◌, ℕ, zero, suc, ◌+◌, ◌-◌, ◌*◌, ◌/◌, ◌%◌, ◌^◌, ◌<◌, ◌≤◌, List, [], ◌∷◌, ◌++◌, length, take, drop, get_or, set, replicate, min, refl, sym, ap, subst, inl, inr, ◌∙◌, arith, bit_and, bit_or}
use Rattle.std.proofs.lemmas.Bool.{cases_lt}
use Rattle.std.proofs.lemmas.Nat.{pow-add, or_shifted, and_mask, shl_whole, shr_below, mul-add-lt}
use Rattle.std.proofs.lemmas.List.{length-append, length-take, get_or_append_left, get_or-drop, length-replicate}
use Rattle.std.proofs.lemmas.List.FromFn.{length-map-range_with_len, get_or-map-range_with_len}
use Rattle.std.proofs.lemmas.Grind.{flat_map-append, same_number_lists}
use Rattle.std.proofs.Math.Pow.{pow_mono}
use Rattle.std.proofs.Math.Nat.{mul_assoc, mul_comm, mul-add, mod-eq_of_lt}
use Rattle.bit_words.specs.Bits.{field_bits, bits_of, bits_value, field_at, padded, padding, words_of, HoldNumber}
use Rattle.bit_words.proofs.Value.{EachBit, value-append, value-take, value-field_bits, value-bits_of_cons, bits-bits_of, bits-take, bits-append, bits-field_bits, length-bits_of, length-field_bits, same_bits, value-bits_of_cons}
use Rattle.bit_words.proofs.Words.{value-words_from, value-first_word, value-field}

-- words that hold so many bits are seen as so many
pub length-held : (ws : List ℕ) (len : ℕ) → HoldNumber ws len → length (take len (bits_of ws)) ≡ len
length-held ws len h = omega (arith, length-take len (bits_of ws), length-bits_of ws, h.count)

pub bits-held : (ws : List ℕ) (len : ℕ) → EachBit (take len (bits_of ws))
bits-held ws len = bits-take len (bits_of ws) (bits-bits_of ws)

pub value-held : (ws : List ℕ) (len : ℕ) → HoldNumber ws len → bits_value (take len (bits_of ws)) ≡ bits_value (bits_of ws)
value-held ws len h = value-take len (bits_of ws) (bits-bits_of ws) ∙ mod-eq_of_lt h.below

pub last_part : (w rest : ℕ) → w < 2 ^ 64 → (w % 2 ^ 64 + 2 ^ 64 * rest) % 2 ^ 64 ≡ w
last_part w rest h = omega arith

-- a word of a list, from the number that the list is
pub word-from_value : (ws : List ℕ) (i : ℕ) → get_or ws i 0 < 2 ^ 64 → bits_value (bits_of ws) / 2 ^ (64 * i) % 2 ^ 64 ≡ get_or ws i 0
word-from_value ws i fits =
    let xs : List ℕ = drop i ws in
    let first : get_or xs 0 0 ≡ get_or ws i 0 = get_or-drop i ws 0 0 ∙ ap (λ k. get_or ws k 0) (let e : i + 0 ≡ i = omega arith in e) in
    ap (λ v. v % 2 ^ 64) (value-words_from i ws ∙ value-first_word xs ∙ ap (λ v. v % 2 ^ 64 + 2 ^ 64 * bits_value (bits_of (drop 1 xs))) first)
    ∙ last_part (get_or ws i 0) (bits_value (bits_of (drop 1 xs))) fits

-- the words of the bits that words hold are those words
pub words_of-held : (ws : List ℕ) (len : ℕ) → ((i : ℕ) → i < length ws → get_or ws i 0 < 2 ^ 64) → HoldNumber ws len → ws ≡ words_of (take len (bits_of ws))
words_of-held ws len fits h =
    let bits : List ℕ = take len (bits_of ws) in
    let count : length ws ≡ (length bits + 63) / 64 = h.count ∙ ap (λ n. (n + 63) / 64) (sym (length-held ws len h)) in
    same_number_lists ws (words_of bits)
    (count ∙ sym (length-map-range_with_len (λ i. field_at bits (64 * i) 64) 0 ((length bits + 63) / 64)))
    (λ i below.
    sym (get_or-map-range_with_len (λ i. field_at bits (64 * i) 64) 0 ((length bits + 63) / 64) i i 0 (omega arith) (omega arith)
    ∙ value-field bits (64 * i) 64 (bits-held ws len)
    ∙ ap (λ v. v / 2 ^ (64 * i) % 2 ^ 64) (value-held ws len h)
    ∙ word-from_value ws i (fits i below)))

pub value-zeros : (n : ℕ) → bits_value (replicate n 0) ≡ 0
value-zeros zero = refl
value-zeros (suc n) = omega (arith, value-zeros n)

pub bits-zeros : (n : ℕ) → EachBit (replicate n 0)
bits-zeros zero = tt
bits-zeros (suc n) = (omega arith, bits-zeros n)

-- padding leaves the words as they are
pub held-padded : (ws : List ℕ) (len end : ℕ) → HoldNumber ws len → end ≡ (len + 63) / 64 * 64 → HoldNumber ws end
held-padded ws len end h e = record {
  count = omega (arith, h.count);
  below = let power : 2 ^ len ≤ 2 ^ end = pow_mono (omega arith) in omega (arith, h.below);
}

pub view-padded : (ws : List ℕ) (len end : ℕ) → HoldNumber ws len → end ≡ (len + 63) / 64 * 64 → take end (bits_of ws) ≡ padded (take len (bits_of ws))
view-padded ws len end h e =
    let bits : List ℕ = take len (bits_of ws) in
    let zeros : List ℕ = replicate (padding (length bits)) 0 in
    let held : HoldNumber ws end = held-padded ws len end h e in
    same_bits (take end (bits_of ws)) (bits ++ zeros) (bits-held ws end) (bits-append bits zeros (bits-held ws len) (bits-zeros (padding (length bits))))
    (omega (arith, length-held ws end held, length-held ws len h, length-append bits zeros, length-replicate {A = ℕ} (padding (length bits)) 0))
    (value-held ws end held ∙ sym (value-held ws len h) ∙ sym (value-append bits zeros ∙ ap (λ v. bits_value bits + 2 ^ length bits * v) (value-zeros (padding (length bits))) ∙ omega arith))

-- words that hold the old number and a value above it
pub held-put : (ws new : List ℕ) (len width value : ℕ) → HoldNumber ws len → value < 2 ^ width → length new ≡ (len + width + 63) / 64 →
    bits_value (bits_of new) ≡ bits_value (bits_of ws) + 2 ^ len * value → HoldNumber new (len + width)
held-put ws new len width value h fits count v = record {
  count = count;
  below = omega (arith, mul-add-lt value (2 ^ len) (bits_value (bits_of ws)) (2 ^ width) fits h.below, mul_comm value (2 ^ len), pow-add 2 len width);
}

pub view-put : (ws new : List ℕ) (len width value : ℕ) → HoldNumber ws len → value < 2 ^ width → length new ≡ (len + width + 63) / 64 →
    bits_value (bits_of new) ≡ bits_value (bits_of ws) + 2 ^ len * value → take (len + width) (bits_of new) ≡ take len (bits_of ws) ++ field_bits width value
view-put ws new len width value h fits count v =
    let held : HoldNumber new (len + width) = held-put ws new len width value h fits count v in
    let bits : List ℕ = take len (bits_of ws) in
    let field : List ℕ = field_bits width value in
    same_bits (take (len + width) (bits_of new)) (bits ++ field) (bits-held new (len + width)) (bits-append bits field (bits-held ws len) (bits-field_bits width value))
    (omega (arith, length-held new (len + width) held, length-held ws len h, length-append bits field, length-field_bits width value))
    (value-held new (len + width) held ∙ v
    ∙ sym (value-append bits field
    ∙ ap (λ n. bits_value bits + 2 ^ n * bits_value field) (length-held ws len h)
    ∙ ap (λ n. n + 2 ^ len * bits_value field) (value-held ws len h)
    ∙ ap (λ n. bits_value (bits_of ws) + 2 ^ len * n) (value-field_bits width value ∙ mod-eq_of_lt fits)))

pub last_alone : (w : ℕ) → w < 2 ^ 64 → w % 2 ^ 64 + 2 ^ 64 * 0 ≡ w
last_alone w h = omega arith

-- a word behind some words
pub value-pushed : (ws : List ℕ) (w : ℕ) → w < 2 ^ 64 → bits_value (bits_of (ws ++ w ∷ [])) ≡ bits_value (bits_of ws) + 2 ^ (64 * length ws) * w
value-pushed ws w fits =
    ap bits_value (flat_map-append (field_bits 64) ws (w ∷ []))
    ∙ value-append (bits_of ws) (bits_of (w ∷ []))
    ∙ ap (λ n. bits_value (bits_of ws) + 2 ^ n * bits_value (bits_of (w ∷ []))) (length-bits_of ws)
    ∙ ap (λ v. bits_value (bits_of ws) + 2 ^ (64 * length ws) * v) (value-bits_of_cons w [] ∙ last_alone w fits)

-- a word in the place of another
pub value-set : (ws : List ℕ) (i w : ℕ) → i < length ws → get_or ws i 0 < 2 ^ 64 → w < 2 ^ 64 →
    bits_value (bits_of (set ws i w)) + 2 ^ (64 * i) * get_or ws i 0 ≡ bits_value (bits_of ws) + 2 ^ (64 * i) * w
value-set [] i w h f g = absurd (omega arith)
value-set (x ∷ ws) zero w h f g = omega (arith, value-bits_of_cons x ws, value-bits_of_cons w ws)
value-set (x ∷ ws) (suc i) w h f g =
    let power : 2 ^ (64 * suc i) ≡ 2 ^ 64 * 2 ^ (64 * i) = ap (λ n. 2 ^ n) (let e : 64 * suc i ≡ 64 + 64 * i = omega arith in e) ∙ pow-add 2 64 (64 * i) in
    let old : 2 ^ (64 * suc i) * get_or ws i 0 ≡ 2 ^ 64 * (2 ^ (64 * i) * get_or ws i 0) = ap (λ p. p * get_or ws i 0) power ∙ mul_assoc (2 ^ 64) (2 ^ (64 * i)) (get_or ws i 0) in
    let new : 2 ^ (64 * suc i) * w ≡ 2 ^ 64 * (2 ^ (64 * i) * w) = ap (λ p. p * w) power ∙ mul_assoc (2 ^ 64) (2 ^ (64 * i)) w in
    omega (arith, value-set ws i w (omega arith) f g, value-bits_of_cons x ws, value-bits_of_cons x (set ws i w), old, new)

-- the last word of a number of so many bits
pub last_word-below : (ws : List ℕ) (len i : ℕ) → HoldNumber ws len → i + 1 ≡ length ws → get_or ws i 0 < 2 ^ 64 → 0 < len % 64 → get_or ws i 0 < 2 ^ (len % 64)
last_word-below ws len i h last fits some =
    let split : len ≡ len % 64 + 64 * i = omega (arith, h.count) in
    let below : bits_value (bits_of ws) / 2 ^ (64 * i) < 2 ^ (len % 64) =
    shr_below (bits_value (bits_of ws)) (len % 64) (64 * i) (let b : bits_value (bits_of ws) < 2 ^ (len % 64 + 64 * i) = subst (λ n. bits_value (bits_of ws) < 2 ^ n) split h.below in b) in
    omega (arith, word-from_value ws i fits)

-- the low and the high word of a value set above some bits
pub pair-sum : (w value used : ℕ) → used < 64 → w < 2 ^ used → value < 2 ^ 64 → bit_or (value * 2 ^ used % 2 ^ 128) w ≡ value * 2 ^ used + w
pair-sum w value used h below fits =
    ap (λ v. bit_or v w) (shl_whole value 64 used 128 fits (omega arith)) ∙ or_shifted value used w below

pub pair-fits : (w value used : ℕ) → used < 64 → w < 2 ^ used → value < 2 ^ 64 → bit_or (value * 2 ^ used % 2 ^ 128) w / 2 ^ 64 < 2 ^ 64
pair-fits w value used h below fits =
    let least : used ≤ 63 = omega arith in
    let power : 2 ^ used ≤ 2 ^ 63 = pow_mono {i = used} {j = 63} least in
    omega (arith, pair-sum w value used h below fits, mul-add-lt value (2 ^ used) w (2 ^ 64) fits below)

-- a value of few bits above some bits fits in a word with them
pub pair-one_word : (w value used width : ℕ) → used + width ≤ 64 → w < 2 ^ used → value < 2 ^ width → value * 2 ^ used + w < 2 ^ 64
pair-one_word w value used width h below fits =
    let power : 2 ^ (used + width) ≤ 2 ^ 64 = pow_mono h in
    omega (arith, mul-add-lt value (2 ^ used) w (2 ^ width) fits below, pow-add 2 used width)

-- what the new last words add
pub added : (new base p w value u len lo hi : ℕ) → lo + 2 ^ 64 * hi ≡ value * u + w → new + p * w ≡ base + 2 ^ 64 * p * hi + p * lo → p * u ≡ len → new ≡ base + len * value
added new base p w value u len lo hi pair e power =
    let spread : p * (lo + 2 ^ 64 * hi) ≡ p * lo + 2 ^ 64 * p * hi = mul-add p lo (2 ^ 64 * hi) ∙ ap (λ v. p * lo + v) (sym (mul_assoc p (2 ^ 64) hi) ∙ ap (λ v. v * hi) (mul_comm p (2 ^ 64))) in
    let value_part : p * (value * u + w) ≡ len * value + p * w = mul-add p (value * u) w ∙ ap (λ v. v + p * w) (ap (λ v. p * v) (mul_comm value u) ∙ sym (mul_assoc p u value) ∙ ap (λ v. v * value) power) in
    let same : p * (lo + 2 ^ 64 * hi) ≡ p * (value * u + w) = ap (λ v. p * v) pair in
    omega arith

pub power-place : (len i : ℕ) → len ≡ len % 64 + 64 * i → 2 ^ (64 * i) * 2 ^ (len % 64) ≡ 2 ^ len
power-place len i e = sym (ap (λ n. 2 ^ n) (e ∙ omega arith) ∙ pow-add 2 (64 * i) (len % 64))

-- a value put into the last word
pub put-last : (ws : List ℕ) (len i width value : ℕ) → HoldNumber ws len → i + 1 ≡ length ws → 0 < len % 64 → get_or ws i 0 < 2 ^ 64 →
    value < 2 ^ 64 → value < 2 ^ width → len % 64 + width ≤ 64 →
    bits_value (bits_of (set ws i (bit_and (bit_or (value * 2 ^ (len % 64) % 2 ^ 128) (get_or ws i 0)) (2 ^ 64 - 1)))) ≡ bits_value (bits_of ws) + 2 ^ len * value
put-last ws len i width value h last some fits small below few =
    let w : ℕ = get_or ws i 0 in
    let under : w < 2 ^ (len % 64) = last_word-below ws len i h last fits some in
    let sum : bit_or (value * 2 ^ (len % 64) % 2 ^ 128) w ≡ value * 2 ^ (len % 64) + w = pair-sum w value (len % 64) (omega arith) under small in
    let one : value * 2 ^ (len % 64) + w < 2 ^ 64 = pair-one_word w value (len % 64) width few under below in
    let low : bit_and (bit_or (value * 2 ^ (len % 64) % 2 ^ 128) w) (2 ^ 64 - 1) ≡ value * 2 ^ (len % 64) + w =
    and_mask (bit_or (value * 2 ^ (len % 64) % 2 ^ 128) w) 64 ∙ ap (λ v. v % 2 ^ 64) sum ∙ mod-eq_of_lt one in
    ap (λ v. bits_value (bits_of (set ws i v))) low
    ∙ added (bits_value (bits_of (set ws i (value * 2 ^ (len % 64) + w)))) (bits_value (bits_of ws)) (2 ^ (64 * i)) w value (2 ^ (len % 64)) (2 ^ len) (value * 2 ^ (len % 64) + w) 0
    (omega arith)
    (omega (arith, value-set ws i (value * 2 ^ (len % 64) + w) (omega arith) fits one))
    (power-place len i (omega (arith, h.count)))

-- a value put into the last word and a new one
pub put-across : (ws : List ℕ) (len i value : ℕ) → HoldNumber ws len → i + 1 ≡ length ws → 0 < len % 64 → get_or ws i 0 < 2 ^ 64 → value < 2 ^ 64 →
    bits_value (bits_of (set (ws ++ bit_or (value * 2 ^ (len % 64) % 2 ^ 128) (get_or ws i 0) / 2 ^ 64 ∷ []) i (bit_and (bit_or (value * 2 ^ (len % 64) % 2 ^ 128) (get_or ws i 0)) (2 ^ 64 - 1))))
    ≡ bits_value (bits_of ws) + 2 ^ len * value
put-across ws len i value h last some fits small =
    let w : ℕ = get_or ws i 0 in
    let under : w < 2 ^ (len % 64) = last_word-below ws len i h last fits some in
    let pair : ℕ = bit_or (value * 2 ^ (len % 64) % 2 ^ 128) w in
    let sum : pair ≡ value * 2 ^ (len % 64) + w = pair-sum w value (len % 64) (omega arith) under small in
    let high : pair / 2 ^ 64 < 2 ^ 64 = pair-fits w value (len % 64) (omega arith) under small in
    let low : bit_and pair (2 ^ 64 - 1) ≡ pair % 2 ^ 64 = and_mask pair 64 in
    let longer : List ℕ = ws ++ pair / 2 ^ 64 ∷ [] in
    let same : get_or longer i 0 ≡ w = get_or_append_left ws (pair / 2 ^ 64 ∷ []) 0 i (omega arith) in
    let power : 2 ^ (64 * length ws) ≡ 2 ^ 64 * 2 ^ (64 * i) = ap (λ n. 2 ^ n) (let e : 64 * length ws ≡ 64 + 64 * i = omega arith in e) ∙ pow-add 2 64 (64 * i) in
    let pushed : bits_value (bits_of longer) ≡ bits_value (bits_of ws) + 2 ^ 64 * 2 ^ (64 * i) * (pair / 2 ^ 64) =
    value-pushed ws (pair / 2 ^ 64) high ∙ ap (λ p. bits_value (bits_of ws) + p * (pair / 2 ^ 64)) power in
    let low_fits : pair % 2 ^ 64 < 2 ^ 64 = omega arith in
    let replaced : bits_value (bits_of (set longer i (pair % 2 ^ 64))) + 2 ^ (64 * i) * get_or longer i 0 ≡ bits_value (bits_of longer) + 2 ^ (64 * i) * (pair % 2 ^ 64) =
    value-set longer i (pair % 2 ^ 64) (omega (arith, length-append ws (pair / 2 ^ 64 ∷ []))) (omega arith) low_fits in
    ap (λ v. bits_value (bits_of (set longer i v))) low
    ∙ added (bits_value (bits_of (set longer i (pair % 2 ^ 64)))) (bits_value (bits_of ws)) (2 ^ (64 * i)) w value (2 ^ (len % 64)) (2 ^ len) (pair % 2 ^ 64) (pair / 2 ^ 64)
    (omega arith)
    (sym (ap (λ v. bits_value (bits_of (set longer i (pair % 2 ^ 64))) + 2 ^ (64 * i) * v) same) ∙ replaced ∙ ap (λ v. v + 2 ^ (64 * i) * (pair % 2 ^ 64)) pushed)
    (power-place len i (omega (arith, h.count)))

-- a value put into a fresh word
pub put-fresh : (ws : List ℕ) (len value : ℕ) → HoldNumber ws len → len % 64 ≡ 0 → value < 2 ^ 64 →
    bits_value (bits_of (ws ++ value ∷ [])) ≡ bits_value (bits_of ws) + 2 ^ len * value
put-fresh ws len value h whole fits =
    value-pushed ws value fits ∙ ap (λ n. bits_value (bits_of ws) + 2 ^ n * value) (let e : 64 * length ws ≡ len = omega (arith, h.count) in e)

pub nothing_added : (v p : ℕ) → v + p * 0 ≡ v
nothing_added v p = omega arith

-- a value put at a word's border: nothing where it has no bits, else a word
pub put-at_border : (ws new : List ℕ) (len width value : ℕ) → HoldNumber ws len → len % 64 ≡ 0 → value < 2 ^ 64 → value < 2 ^ width →
    (width ≡ 0 → new ≡ ws) → (0 < width → new ≡ ws ++ value ∷ []) → bits_value (bits_of new) ≡ bits_value (bits_of ws) + 2 ^ len * value
put-at_border ws new len width value h whole fits below none some =
    elim (cases_lt 0 width) [
      | inl more ↦ ap (λ xs. bits_value (bits_of xs)) (some more) ∙ put-fresh ws len value h whole fits
      | inr least ↦
          let empty : width ≡ 0 = omega arith in
          let nothing : value < 2 ^ 0 = subst (λ n. value < 2 ^ n) empty below in
          let gone : value ≡ 0 = omega arith in
          ap (λ xs. bits_value (bits_of xs)) (none empty) ∙ sym (ap (λ v. bits_value (bits_of ws) + 2 ^ len * v) gone ∙ nothing_added (bits_value (bits_of ws)) (2 ^ len))
    ]

-- what `div_ceil` gives
pub rounds_up : (n r : ℕ) → r ≡ n / 64 + min 1 (n % 64) → r ≡ (n + 63) / 64
rounds_up n r e = omega arith

pub length-padded : (ws : List ℕ) (len : ℕ) → HoldNumber ws len → length (padded (take len (bits_of ws))) ≡ (len + 63) / 64 * 64
length-padded ws len h =
    let bits : List ℕ = take len (bits_of ws) in
    omega (arith, length-held ws len h, length-append bits (replicate (padding (length bits)) 0), length-replicate {A = ℕ} (padding (length bits)) 0)
