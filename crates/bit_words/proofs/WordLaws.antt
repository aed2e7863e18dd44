use Rattle.std.proofs.Common.{◌≡◌, ℕ, zero, suc, ◌+◌, ◌*◌, ◌/◌, ◌%◌, ◌^◌, ◌<◌, ◌≤◌, List, ◌++◌, length, take, drop, map, replicate, sym, ap, ◌∙◌, arith, append_assoc}
use Rattle.std.specs.List.{All, range_with_len, slice_index_or}
use Rattle.std.proofs.lemmas.List.{length-append, length-drop, length-replicate, drop-append-le, take-append-le, take_all}
use Rattle.std.proofs.lemmas.List.FromFn.{length-map-range_with_len, get_or-map-range_with_len}
use Rattle.std.proofs.lemmas.List.Elements.{All-map}
use Rattle.std.proofs.lemmas.Grind.{flat_map-append, same_number_lists}
use Rattle.std.proofs.lemmas.Nat.{shr-shr, mod-pow-add}
use Rattle.std.proofs.Math.Seq.{drop-append_seam, drop-append-add}
use Rattle.std.proofs.Math.Pow.{pow_mono}
use Rattle.std.proofs.Math.Nat.{mod-eq_of_lt, mul_comm}
use Rattle.bit_words.specs.Bits.{field_bits, bits_of, bits_value, field_at, padding, words_of}
use Rattle.bit_words.specs.Laws.{BitsOfAppended, BitsOfWords, FieldOfAppended, FieldOfTwo, FieldReadBack, FieldStays, WordsOfBits, WordsOfPadded}
use Rattle.bit_words.proofs.Value.{EachBit, each_bit, value-append, value-below, value-field_bits, value-bits_of_cons, bits-append, bits-bits_of, length-bits_of, length-field_bits, same_bits}
use Rattle.bit_words.proofs.Words.{value-field}
use Rattle.bit_words.proofs.Writing.{word-from_value, value-zeros, bits-zeros}

pub bits_of_appended : BitsOfAppended
bits_of_appended words more = flat_map-append (field_bits 64) words more

pub field_stays : FieldStays
field_stays bits more at width h =
    ap (λ xs. bits_value (take width xs)) (drop-append-le at bits more (omega arith))
    ∙ ap bits_value (take-append-le width (drop at bits) more (omega (arith, length-drop at bits)))

pub field_read_back : FieldReadBack
field_read_back bits more width value h =
    let field : List ℕ = field_bits width value in
    ap (λ xs. bits_value (take width (drop (length bits) xs))) (append_assoc bits field more)
    ∙ ap (λ xs. bits_value (take width xs)) (drop-append_seam bits (field ++ more))
    ∙ ap bits_value (take-append-le width field more (omega (arith, length-field_bits width value)) ∙ take_all width field (omega (arith, length-field_bits width value)))
    ∙ value-field_bits width value ∙ mod-eq_of_lt h

pub field_of_appended : FieldOfAppended
field_of_appended bits more at width = ap (λ xs. bits_value (take width xs)) (drop-append-add bits more at)

pub turned : (a b p : ℕ) → a * p + b ≡ b + p * a
turned a b p = omega (arith, mul_comm a p)

pub field_of_two : FieldOfTwo
field_of_two bits at low high h =
    let each : EachBit bits = each_bit bits h in
    let n : ℕ = bits_value bits / 2 ^ at in
    value-field bits at (low + high) each
    ∙ ap (λ i. n % 2 ^ i) (let e : low + high ≡ high + low = omega arith in e)
    ∙ mod-pow-add n high low
    ∙ turned (n / 2 ^ low % 2 ^ high) (n % 2 ^ low) (2 ^ low)
    ∙ sym (ap (λ v. v + 2 ^ low * field_at bits (at + low) high) (value-field bits at low each)
    ∙ ap (λ v. n % 2 ^ low + 2 ^ low * v) (value-field bits (at + low) high each ∙ ap (λ v. v % 2 ^ high) (sym (shr-shr (bits_value bits) at low))))

-- the number that some words of bits are
pub value-words_of_from : (bits : List ℕ) → EachBit bits → (a n : ℕ) →
    bits_value (bits_of (map (λ i. field_at bits (64 * i) 64) (range_with_len a n))) ≡ bits_value bits / 2 ^ (64 * a) % 2 ^ (64 * n)
value-words_of_from bits h a zero = omega arith
value-words_of_from bits h a (suc n) =
    let rest : List ℕ = map (λ i. field_at bits (64 * i) 64) (range_with_len (a + 1) n) in
    let m : ℕ = bits_value bits / 2 ^ (64 * a) in
    let word : field_at bits (64 * a) 64 ≡ m % 2 ^ 64 = value-field bits (64 * a) 64 h in
    let shifted : bits_value bits / 2 ^ (64 * (a + 1)) ≡ m / 2 ^ 64 =
    ap (λ i. bits_value bits / 2 ^ i) (let e : 64 * (a + 1) ≡ 64 * a + 64 = omega arith in e) ∙ sym (shr-shr (bits_value bits) (64 * a) 64) in
    let tail : bits_value (bits_of rest) ≡ m / 2 ^ 64 % 2 ^ (64 * n) = value-words_of_from bits h (a + 1) n ∙ ap (λ v. v % 2 ^ (64 * n)) shifted in
    let whole : m % 2 ^ (64 * suc n) ≡ (m / 2 ^ 64 % 2 ^ (64 * n)) * 2 ^ 64 + m % 2 ^ 64 =
    ap (λ i. m % 2 ^ i) (let e : 64 * suc n ≡ 64 * n + 64 = omega arith in e) ∙ mod-pow-add m (64 * n) 64 in
    omega (arith, value-bits_of_cons (field_at bits (64 * a) 64) rest, word, tail, whole)

pub bits_of_words : BitsOfWords
bits_of_words bits h =
    let each : EachBit bits = each_bit bits h in
    let n : ℕ = (length bits + 63) / 64 in
    let zeros : List ℕ = replicate (padding (length bits)) 0 in
    let power : 2 ^ length bits ≤ 2 ^ (64 * n) = pow_mono {i = length bits} {j = 64 * n} (omega arith) in
    same_bits (bits_of (words_of bits)) (bits ++ zeros) (bits-bits_of (words_of bits)) (bits-append bits zeros each (bits-zeros (padding (length bits))))
    (omega (arith, length-bits_of (words_of bits), length-map-range_with_len (λ i. field_at bits (64 * i) 64) 0 n, length-append bits zeros, length-replicate {A = ℕ} (padding (length bits)) 0))
    (value-words_of_from bits each 0 n
    ∙ ap (λ v. v % 2 ^ (64 * n)) (let e : bits_value bits / 2 ^ 0 ≡ bits_value bits = omega arith in e)
    ∙ mod-eq_of_lt (let b : bits_value bits < 2 ^ (64 * n) = omega (arith, value-below bits each) in b)
    ∙ sym (value-append bits zeros ∙ ap (λ v. bits_value bits + 2 ^ length bits * v) (value-zeros (padding (length bits))) ∙ omega arith))

pub words_of_bits : WordsOfBits
words_of_bits words fits =
    let bits : List ℕ = bits_of words in
    let n : ℕ = (length bits + 63) / 64 in
    let count : n ≡ length words = omega (arith, length-bits_of words) in
    let each : length (words_of bits) ≡ n = length-map-range_with_len (λ i. field_at bits (64 * i) 64) 0 n in
    same_number_lists (words_of bits) words (each ∙ count)
    (λ i below.
    get_or-map-range_with_len (λ i. field_at bits (64 * i) 64) 0 n i i 0 (omega arith) (omega arith)
    ∙ value-field bits (64 * i) 64 (bits-bits_of words)
    ∙ word-from_value words i (fits i 0 (omega arith)))

-- a word of some bits is below 2 ^ 64
pub words_of-fit : (bits : List ℕ) → EachBit bits → All (λ w. w < 2 ^ 64) (words_of bits)
words_of-fit bits h =
    All-map (λ w. w < 2 ^ 64) (λ i. field_at bits (64 * i) 64) (range_with_len 0 ((length bits + 63) / 64))
    (λ k d below. omega (arith, value-field bits (64 * slice_index_or (range_with_len 0 ((length bits + 63) / 64)) k d) 64 h))

pub words_of_padded : WordsOfPadded
words_of_padded bits h = sym (ap words_of (bits_of_words bits h)) ∙ words_of_bits (words_of bits) (words_of-fit bits (each_bit bits h))
