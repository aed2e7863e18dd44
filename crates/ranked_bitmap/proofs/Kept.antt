-- Marks that are kept where a bitmap has its numbers.
use Rattle.std.proofs.Common.{◌≡◌, sym, ap, inl, inr, ◌∙◌, ℕ, ◌+◌, ◌*◌, ◌%◌, ◌<◌, ◌≤◌, eqb, List, get_or, take, drop, arith}
use Rattle.std.specs.Int.{bit_at}
use Rattle.std.proofs.lemmas.Bool.{cases_eq, eq-eqb, ne_eqb}
use Rattle.std.proofs.lemmas.List.{get_or-take, get_or-drop}
use Rattle.collection_model.specs.Marks.{has_number}
use Rattle.collection_model.proofs.Marks.{has-at, has-none}
use Rattle.bit_words.specs.Bits.{bits_of, bits_value, field_at}
use Rattle.bit_words.proofs.Value.{EachBit, bits-bits_of, value-drop, value-take, bits-take, bits-drop}
use Rattle.bit_words.proofs.Ranges.{field-one}
use Rattle.ranked_bitmap.specs.declared.MapView.{MapView}
use Rattle.ranked_bitmap.specs.MapView.{Holds}
use Rattle.ranked_bitmap.proofs.OneList.{view-read}
use Rattle.ranked_bitmap.proofs.Reading.{window-at}

-- a bit of the value of some bits
bit-of_value : (bits : List ℕ) (k : ℕ) → EachBit bits → bit_at (bits_value bits) k ≡ get_or bits k 0
bit-of_value bits k each = ap (λ (v : ℕ). v % 2) (sym (value-drop k bits each)) ∙ sym (value-take 1 (drop k bits) (bits-drop k bits each)) ∙ field-one bits k

-- a bit of a field
pub bit-of_field : (bits : List ℕ) (at width k : ℕ) → k < width → EachBit bits → bit_at (field_at bits at width) k ≡ get_or bits (at + k) 0
bit-of_field bits at width k lt each =
    bit-of_value (take width (drop at bits)) k (bits-take width (drop at bits) (bits-drop at bits each)) ∙ get_or-take width (drop at bits) k 0 lt ∙ get_or-drop at bits k 0

-- the bit of a place tells whether its number is there
pub bit-tells : (q : ℕ) (v : MapView q) (ys : List ℕ) → Holds q v ys → (x : ℕ) → x < v.part.u → eqb (get_or (bits_of v.part.bits.words.now) (v.part.place + x) 0) 1 ≡ has_number x ys
bit-tells q v ys h x lt =
    let bits : List ℕ = bits_of v.part.bits.words.now in
    let read = view-read q v ys h in
    let here = window-at bits v.part.place v.part.u x lt in
    elim (cases_eq (get_or bits (v.part.place + x) 0) 1) as (λ _. eqb (get_or bits (v.part.place + x) 0) 1 ≡ has_number x ys) [
      | inl one ↦ (let at = read.ones.only x (here ∙ one) in eq-eqb _ 1 one ∙ sym (has-at x ys at.0 at.1 at.2))
      | inr not ↦ ne_eqb _ 1 not ∙ sym (has-none x ys (λ k within is. not (sym here ∙ ap (λ (n : ℕ). get_or (take v.part.u (drop v.part.place bits)) n 0) (sym is) ∙ read.ones.one k within)))
    ]

-- the bits of a word of places tell it of each
pub word-tells : (q : ℕ) (v : MapView q) (ys : List ℕ) → Holds q v ys → (from i at word : ℕ) → from + (64 * i + 64) ≤ v.part.u → at ≡ v.part.place + from + 64 * i → word ≡ field_at (bits_of v.part.bits.words.now) at 64
    → (k : ℕ) → k < 64 → eqb (bit_at word k) 1 ≡ has_number (from + (64 * i + k)) ys
word-tells q v ys h from i at word within is reads k lt =
    let bits : List ℕ = bits_of v.part.bits.words.now in
    let place : at + k ≡ v.part.place + (from + (64 * i + k)) = omega arith in
    ap (λ (w : ℕ). eqb (bit_at w k) 1) reads
    ∙ ap (λ (b : ℕ). eqb b 1) (bit-of_field bits at 64 k lt (bits-bits_of v.part.bits.words.now))
    ∙ ap (λ (p : ℕ). eqb (get_or bits p 0) 1) place
    ∙ bit-tells q v ys h (from + (64 * i + k)) (omega arith)
