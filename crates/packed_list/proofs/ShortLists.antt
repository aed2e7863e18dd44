-- No list takes many bits.
use Rattle.std.proofs.Common.{◌≡◌, ℕ, ◌+◌, ◌-◌, ◌^◌, ◌<◌, ◌≤◌, List, [], ◌∷◌, ◌++◌, length, replicate, sym, subst, arith}
use Rattle.std.proofs.lemmas.List.{length-append, length-replicate}
use Rattle.bit_words.specs.Bits.{field_bits, bits_of, padding}
use Rattle.bit_words.proofs.Value.{length-field_bits, length-bits_of}
use Rattle.collection_model.specs.FormatNumbers.{format_three}
use Rattle.collection_model.specs.Collection.{Posting, greatest_freq}
use Rattle.collection_model.specs.Sequences.{doc_sequence, freq_sequence}
use Rattle.part_cost.specs.Payload.{digits, payload}
use Rattle.part_cost.specs.Span.{past}
use Rattle.part_cost.specs.Partition.{IsPartition}
use Rattle.part_cost.specs.StoredLaws.{PartsAreShort, PayloadsAreShort}
use Rattle.part_cost.proofs.Parts.{past-at}
use Rattle.part_cost.proofs.Partitions.{few-parts, charges}
use Rattle.part_codec.specs.PartBits.{part_bits}
use Rattle.part_codec.specs.Laws.{TakesItsPayload}
use Rattle.two_level.specs.Laws.{TakesItsCost}
use Rattle.two_level.specs.SequenceWords.{sequence_words}
use Rattle.postings.specs.Laws.{SequencesRise}
use Rattle.packed_sequence.specs.declared.last_field.LastField.{LastField}
use Rattle.packed_sequence.specs.SequenceBits.{last_doc, last_sum, sequence_bits, IsStored}
use Rattle.packed_list.specs.ListBits.{head_bits}
use Rattle.packed_list.specs.Laws.{ListsAreShort}
use Rattle.packed_sequence.proofs.LonePlaces.{relative}
use Rattle.packed_list.proofs.OneListBits.{has-some, docs-stored, freqs-stored}
use Rattle.packed_list.proofs.ListPlaces.{length-head_bits}

-- one part, and several
sequence-short : TakesItsPayload → TakesItsCost format_three → PartsAreShort → PayloadsAreShort → (last : LastField) (at m : ℕ) (xs ends : List ℕ) → 1 ≤ m → m < 2 ^ 32 → last.width ≤ 64 → IsStored last m xs ends
    → length (sequence_bits last at xs ends) < 2 ^ 42
sequence-short payloads cost part all last at m xs [] some few narrow h = absurd (omega (arith, h.partition, some))
sequence-short payloads cost part all last at m xs (end ∷ []) some few narrow h =
    let w : ℕ = last.width in
    let u : ℕ = past xs (length xs) in
    let v : ℕ = u - 1 - last.less in
    let above = past-at xs (length xs) (omega (arith, h.count, some)) in
    let inside = h.below (length xs - 1) 0 (omega (arith, h.count, some)) in
    let long : length (part_bits xs u) ≡ payload u m = payloads u m xs (omega (arith, above, inside)) (relative last m xs (end ∷ []) some h) in
    omega (arith, length-append (0 ∷ field_bits w v) (part_bits xs u), length-field_bits w v, long, part u m (omega (arith, above, inside)) few, narrow)
sequence-short payloads cost part all last at m xs (end ∷ next ∷ more) some few narrow h =
    let ends : List ℕ = end ∷ next ∷ more in
    let w : ℕ = digits (length xs) in
    let zeros : List ℕ = replicate (padding (at + 1 + w)) 0 in
    let head : List ℕ = 1 ∷ field_bits w (length ends) in
    let ws : List ℕ = sequence_words format_three xs ends in
    let cut : IsPartition (length xs) ends = subst (λ k. IsPartition k ends) (sym h.count) h.partition in
    let takes = cost xs ends h.rising h.below cut in
    let paid = charges format_three xs 0 ends in
    let bits = all xs ends h.rising h.below (omega (arith, h.count, few)) cut in
    let parts = few-parts 0 m ends h.partition in
    omega (
      arith,
      length-append (head ++ zeros) (bits_of ws),
      length-append head zeros,
      length-field_bits w (length ends),
      length-replicate {A = ℕ} (padding (at + 1 + w)) 0,
      length-bits_of ws,
      takes,
      paid,
      bits,
      parts,
      few,
    )

pub lists-are-short : TakesItsPayload → TakesItsCost format_three → PartsAreShort → PayloadsAreShort → SequencesRise → ListsAreShort
lists-are-short payloads cost part all rise n at [] ends cuts small h = omega arith
lists-are-short payloads cost part all rise n at (p ∷ []) ends cuts small h =
    let has = has-some n (p ∷ []) h.well_formed (omega arith) in
    omega (arith, length-append (head_bits (p ∷ [])) (field_bits (digits (n - 1)) p.doc), length-head_bits n (p ∷ []) small has, length-field_bits (digits (n - 1)) p.doc)
lists-are-short payloads cost part all rise n at (p ∷ q ∷ list) ends cuts small h =
    let xs : List Posting = p ∷ q ∷ list in
    let m : ℕ = length xs in
    let g : ℕ = greatest_freq xs in
    let has = has-some n xs h.well_formed (omega arith) in
    let few : m < 2 ^ 32 = omega (arith, has.few, small) in
    let head : List ℕ = head_bits xs in
    let docs : List ℕ = sequence_bits (last_doc n) (at + length head) (doc_sequence xs) ends in
    let sums : List ℕ = sequence_bits (last_sum m g) (at + length head + length docs) (freq_sequence xs) cuts in
    let first = sequence-short payloads cost part all (last_doc n) (at + length head) m (doc_sequence xs) ends has.some few (omega arith) (docs-stored n xs ends small h.well_formed has h.docs) in
    let second = sequence-short payloads cost part all (last_sum m g) (at + length head + length docs) m (freq_sequence xs) cuts has.some few (omega arith) (freqs-stored rise n xs cuts small h.well_formed has h.freqs) in
    omega (arith, length-append (head ++ docs) sums, length-append head docs, length-head_bits n xs small has, first, second)
