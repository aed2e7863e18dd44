-- Lemmas on the frame of a packed file.
use Rattle.std.proofs.Common.{◌≡◌, ℕ, ◌-◌, List, length, slice_index, refl}
use Rattle.std.proofs.lemmas.Bool.{or_parts, or_from, ltb-false, le-ltb, eqb-true, eq-eqb, not-false, not_from_true}
use Rattle.std.specs.Prelude.{Option, Some, None, not, ◌==◌, ◌||◌, nat_lt, if◌then◌else◌}
use Rattle.collection_model.specs.FormatNumbers.{format_three, most_terms}
use Rattle.sequence_words.specs.declared.check.Check.{Check}
use Rattle.sequence_words.specs.declared.check.Check.TheVariants.{K1, K2, K3, K4, K5}
use Rattle.index_file.specs.PackedWords.{packed_magic, packed_end, most_list_bits}
use Rattle.index_file.specs.PackedAt.{packed_documents, packed_terms, packed_bits, packed_count, HasPackedFrame}
use Rattle.index_file.specs.PackedFaults.{packed_numbers_break, packed_frame_broken}
use Rattle.index_file.proofs.Frames.{if-none, none-if}

pub packed-frame-stands : (words : List ℕ) → packed_frame_broken words ≡ None → HasPackedFrame words
packed-frame-stands words h =
    let n : ℕ = packed_documents words in
    let t : ℕ = packed_terms words in
    let p : ℕ = packed_bits words in
    let count : ℕ = length words in
    let five : Option Check = if packed_numbers_break n t p count then Some K5 else None in
    let four : Option Check = if not (slice_index words (count - 1) == packed_end) then Some K4 else five in
    let three : Option Check = if not (slice_index words 1 == format_three.version) then Some K3 else four in
    let two : Option Check = if not (slice_index words 0 == packed_magic) then Some K2 else three in
    let g1 = if-none (nat_lt count 6) K1 two h in
    let g2 = if-none (not (slice_index words 0 == packed_magic)) K2 three g1.1 in
    let g3 = if-none (not (slice_index words 1 == format_three.version)) K3 four g2.1 in
    let g4 = if-none (not (slice_index words (count - 1) == packed_end)) K4 five g3.1 in
    let g5 = if-none (packed_numbers_break n t p count) K5 None g4.1 in
    let a = nat_lt format_three.most_documents n in
    let b = nat_lt most_terms t in
    let d = nat_lt most_list_bits p in
    let e = not (packed_count n t p == count) in
    let k3 = or_parts (a || b || d) e g5.0 in
    let k2 = or_parts (a || b) d k3.0 in
    let k1 = or_parts a b k2.0 in
    record {
      some = ltb-false count 6 g1.0;
      opening = eqb-true (slice_index words 0) packed_magic (not-false (slice_index words 0 == packed_magic) g2.0);
      version = eqb-true (slice_index words 1) format_three.version (not-false (slice_index words 1 == format_three.version) g3.0);
      closing = eqb-true (slice_index words (count - 1)) packed_end (not-false (slice_index words (count - 1) == packed_end) g4.0);
      documents = ltb-false format_three.most_documents n k1.0;
      terms = ltb-false most_terms t k1.1;
      bits = ltb-false most_list_bits p k2.1;
      whole = eqb-true (packed_count n t p) count (not-false (packed_count n t p == count) k3.1);
    }

pub packed-frame-none : (words : List ℕ) → HasPackedFrame words → packed_frame_broken words ≡ None
packed-frame-none words h =
    let n : ℕ = packed_documents words in
    let t : ℕ = packed_terms words in
    let p : ℕ = packed_bits words in
    let count : ℕ = length words in
    let five : Option Check = if packed_numbers_break n t p count then Some K5 else None in
    let four : Option Check = if not (slice_index words (count - 1) == packed_end) then Some K4 else five in
    let three : Option Check = if not (slice_index words 1 == format_three.version) then Some K3 else four in
    let two : Option Check = if not (slice_index words 0 == packed_magic) then Some K2 else three in
    let a = nat_lt format_three.most_documents n in
    let b = nat_lt most_terms t in
    let d = nat_lt most_list_bits p in
    let e = not (packed_count n t p == count) in
    none-if (nat_lt count 6) K1 two (le-ltb count 6 h.some)
    (none-if (not (slice_index words 0 == packed_magic)) K2 three (not_from_true (slice_index words 0 == packed_magic) (eq-eqb (slice_index words 0) packed_magic h.opening))
    (none-if (not (slice_index words 1 == format_three.version)) K3 four (not_from_true (slice_index words 1 == format_three.version) (eq-eqb (slice_index words 1) format_three.version h.version))
    (none-if (not (slice_index words (count - 1) == packed_end)) K4 five
    (not_from_true (slice_index words (count - 1) == packed_end) (eq-eqb (slice_index words (count - 1)) packed_end h.closing))
    (none-if (packed_numbers_break n t p count) K5 None
    (or_from (a || b || d) e
    (or_from (a || b) d (or_from a b (le-ltb format_three.most_documents n h.documents) (le-ltb most_terms t h.terms)) (le-ltb most_list_bits p h.bits))
    (not_from_true (packed_count n t p == count) (eq-eqb (packed_count n t p) count h.whole)))
    refl))))
