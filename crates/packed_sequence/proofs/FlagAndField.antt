-- The flag of a sequence and the field behind it, read as one field.
use Rattle.std.proofs.Common.{◌≡◌, ℕ, zero, suc, ◌+◌, ◌-◌, ◌*◌, ◌/◌, ◌%◌, ◌^◌, ◌<◌, ◌≤◌, min, List, [], ◌∷◌, ◌++◌, length, take, drop, get_or, slice_index, replicate, refl, ap, ◌∙◌, inl, inr, arith}
use Rattle.std.proofs.lemmas.Bool.{cases_lt}
use Rattle.std.proofs.lemmas.List.{length-append, drop-drop, get_or-drop}
use Rattle.bit_words.specs.Bits.{field_bits, bits_value, field_at, bits_of, words_of, padding}
use Rattle.bit_words.proofs.Value.{EachBit, value-take, bits-drop, length-bits_of}
use Rattle.bit_words.proofs.Ranges.{bit-below}
use Rattle.collection_model.specs.FormatNumbers.{format_three}
use Rattle.part_cost.specs.Payload.{digits}
use Rattle.part_cost.specs.Span.{past, payload_of_part}
use Rattle.sequence_words.specs.EntryWords.{entry}
use Rattle.sequence_words.specs.SequenceWords.{directory_from, payload_from, sequence_words}
use Rattle.packed_sequence.specs.declared.last_field.LastField.{LastField}
use Rattle.packed_sequence.specs.SequencePlaces.{IsSequenceBefore}
use Rattle.packed_sequence.proofs.LonePlaces.{length-lone}

-- the first of some bits, and those behind it
first-of : (xs : List ℕ) (w : ℕ) → bits_value (take (suc w) xs) ≡ get_or xs 0 0 + 2 * bits_value (take w (drop 1 xs))
first-of [] zero = refl
first-of [] (suc w) = refl
first-of (x ∷ xs) w = refl

-- a field is its first bit and the field behind it
field-split : (bits : List ℕ) (at w : ℕ) → field_at bits at (1 + w) ≡ slice_index bits at + 2 * field_at bits (at + 1) w
field-split bits at w =
    let first : get_or (drop at bits) 0 0 ≡ slice_index bits at = get_or-drop at bits 0 0 ∙ ap (λ k. get_or bits k 0) (let e : at + 0 ≡ at = omega arith in e) in
    ap (λ n. bits_value (take n (drop at bits))) (let e : 1 + w ≡ suc w = omega arith in e)
    ∙ first-of (drop at bits) w ∙ ap (λ b. b + 2 * bits_value (take w (drop 1 (drop at bits)))) first
    ∙ ap (λ xs. slice_index bits at + 2 * bits_value (take w xs)) (drop-drop 1 at bits)

-- a field of 64 bits whose value is small is that of its lower 63
lower-field : (bits : List ℕ) (at w : ℕ) → EachBit bits → w ≤ 64 → field_at bits at w < 2 ^ 48 → field_at bits at (min w 63) ≡ field_at bits at w
lower-field bits at w each narrow small = elim (cases_lt w 64) [
  | inl less ↦ ap (field_at bits at) (let e : min w 63 ≡ w = omega (arith, less) in e)
  | inr more ↦
      let is : w ≡ 64 = omega (arith, more, narrow) in
      let low : field_at bits at 63 ≡ bits_value (drop at bits) % 2 ^ 63 = value-take 63 (drop at bits) (bits-drop at bits each) in
      let all : field_at bits at 64 ≡ bits_value (drop at bits) % 2 ^ 64 = value-take 64 (drop at bits) (bits-drop at bits each) in
      let same : field_at bits at w ≡ field_at bits at 64 = ap (field_at bits at) is in
      ap (field_at bits at) (let e : min w 63 ≡ 63 = omega (arith, is) in e) ∙ omega (arith, low, all, same, small)
]

-- what is read of both
pub record FlagAndField (bits : List ℕ) (at w head : ℕ) : Type 0 where
  pub flag : slice_index bits at ≡ head % 2
  pub field : field_at bits (at + 1) w < 2 ^ 48 → head / 2 ≡ field_at bits (at + 1) w

pub flag-and-field : (bits : List ℕ) (at w read head : ℕ) → EachBit bits → w ≤ 64 → read ≡ min (1 + w) 64 → head ≡ field_at bits at read → FlagAndField bits at w head
flag-and-field bits at w read head each narrow is got =
    let width : read ≡ 1 + min w 63 = omega (arith, is, narrow) in
    let both : head ≡ slice_index bits at + 2 * field_at bits (at + 1) (min w 63) = got ∙ ap (field_at bits at) width ∙ field-split bits at (min w 63) in
    let bit = bit-below bits at each in
    record {
      flag = omega (arith, both, bit);
      field = λ small. omega (arith, both, bit, lower-field bits (at + 1) w each narrow small);
    }

-- the words of a sequence in parts are some
some-words : (xs : List ℕ) (end : ℕ) (ends : List ℕ) → 1 ≤ length (sequence_words format_three xs (end ∷ ends))
some-words xs end ends =
    let first : List ℕ = entry format_three (past xs end - 1) end 0 in
    let others : List ℕ = directory_from format_three xs end (0 + payload_of_part xs 0 end) ends in
    let two : length first ≡ 2 = refl in
    omega (
      arith,
      length-append (first ++ others) (words_of (payload_from xs 0 (end ∷ ends))),
      length-append first others,
      two,
    )

-- and the bits of a sequence reach as far as is read of them
pub head-fits : (last : LastField) (m bound : ℕ) (bits : List ℕ) (at end : ℕ) (xs ends : List ℕ) → 1 ≤ m → IsSequenceBefore last m bound bits at end xs ends → at + min (1 + last.width) 64 ≤ end
head-fits last m bound bits at end xs [] some h = absurd (omega (arith, h.stored.partition, some))
head-fits last m bound bits at end xs (e ∷ []) some h = omega (arith, h.within, length-lone last xs)
head-fits last m bound bits at end xs (e ∷ next ∷ ends) some h =
    let cuts : List ℕ = e ∷ next ∷ ends in
    let head : List ℕ = (1 ∷ field_bits (digits (length xs)) (length cuts)) ++ replicate (padding (at + 1 + digits (length xs))) 0 in
    let ws : List ℕ = sequence_words format_three xs cuts in
    omega (arith, h.within, length-append head (bits_of ws), length-bits_of ws, some-words xs e (next ∷ ends))
