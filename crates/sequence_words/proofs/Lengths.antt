use Rattle.std.proofs.Common.{◌≡◌, ℕ, ◌+◌, ◌-◌, ◌*◌, ◌/◌, ◌^◌, ◌<◌, ◌≤◌, List, [], ◌∷◌, length, refl, arith}
use Rattle.std.specs.List.{All}
use Rattle.std.specs.List.Sorted.{IsStrictlyIncreasing}
use Rattle.std.proofs.lemmas.List.{length-append}
use Rattle.std.proofs.lemmas.List.Elements.{All-nil, All-append}
use Rattle.std.proofs.lemmas.List.FromFn.{length-map-range_with_len}
use Rattle.collection_model.specs.FormatNumbers.{FormatNumbers, entry_words}
use Rattle.bit_words.specs.Bits.{AreBits, field_at, words_of}
use Rattle.part_cost.specs.Payload.{widest_low}
use Rattle.part_cost.specs.Formats.{HasRoom}
use Rattle.part_cost.specs.Span.{past, universe, payload_of_part, relative_values}
use Rattle.part_cost.specs.Partition.{IsPartitionFrom, cost_from}
use Rattle.part_cost.proofs.Partitions.{ends-within, charges}
use Rattle.part_cost.specs.Laws.{PartHasRoom, PartIsWithin, PartIsRelative}
use Rattle.part_cost.specs.StoredLaws.{PayloadsAreShort}
use Rattle.part_codec.specs.PartBits.{part_bits}
use Rattle.part_codec.specs.Laws.{PartIsBits, TakesItsPayload}
use Rattle.sequence_words.specs.EntryWords.{entry}
use Rattle.sequence_words.specs.SequenceWords.{directory_from, payload_from, sequence_words}
use Rattle.sequence_words.specs.Laws.{TakesItsCost}
use Rattle.sequence_words.proofs.EntryLaws.{entry-is-whole}
use Rattle.sequence_words.proofs.StatedParts.{below-bound}

-- what a part of a rising sequence is, by the laws of the layers below
pub record PartLaws : Type 0 where
  pub bits : PartIsBits
  pub takes : TakesItsPayload
  pub room : PartHasRoom
  pub within : PartIsWithin
  pub relative : PartIsRelative
  pub short : PayloadsAreShort

-- values that rise below the greatest bound of a format, which lies in the range of payloads
pub record AreValues (format : FormatNumbers) (xs : List ℕ) : Type 0 where
  pub rising : IsStrictlyIncreasing xs
  pub below : All (λ x. x < format.most_sum) xs
  pub in_range : All (λ x. x < 2 ^ widest_low) xs

pub are-values : (format : FormatNumbers) (room : HasRoom format) (xs : List ℕ) → IsStrictlyIncreasing xs → All (λ x. x < format.most_sum) xs → AreValues format xs
are-values format room xs up below = record { rising = up; below = below; in_range = below-bound format.most_sum (2 ^ widest_low) xs room.sums below }

-- the bits of one part
pub part-takes : PartLaws → (xs : List ℕ) → IsStrictlyIncreasing xs → All (λ x. x < 2 ^ widest_low) xs → (i end : ℕ) → i < end → end ≤ length xs
    → length (part_bits (relative_values xs i end) (universe xs i end)) ≡ payload_of_part xs i end
part-takes laws xs up fits i end lt fit =
    laws.takes (universe xs i end) (end - i) (relative_values xs i end) (laws.within (2 ^ widest_low) xs fits i end lt fit) (laws.relative xs up i end lt fit)

-- the bits of all parts from a place on
pub length-payload : PartLaws → (xs : List ℕ) → IsStrictlyIncreasing xs → All (λ x. x < 2 ^ widest_low) xs → (i : ℕ) (ends : List ℕ) → IsPartitionFrom i (length xs) ends
    → length (payload_from xs i ends) ≡ cost_from (payload_of_part xs) i ends
length-payload laws xs up fits i [] h = refl
length-payload laws xs up fits i (end ∷ ends) h =
    omega (
      arith,
      length-append (part_bits (relative_values xs i end) (universe xs i end)) (payload_from xs end ends),
      part-takes laws xs up fits i end h.0 (ends-within end (length xs) ends h.1),
      length-payload laws xs up fits end ends h.1,
    )

pub bits-payload : PartLaws → (xs : List ℕ) (i : ℕ) (ends : List ℕ) → AreBits (payload_from xs i ends)
bits-payload laws xs i [] = All-nil (λ b. b < 2)
bits-payload laws xs i (end ∷ ends) =
    All-append (λ b. b < 2) (part_bits (relative_values xs i end) (universe xs i end)) (payload_from xs end ends)
    (laws.bits (universe xs i end) (relative_values xs i end)) (bits-payload laws xs end ends)

-- the words of an entry for each part
pub length-directory : (format : FormatNumbers) (xs : List ℕ) (i offset : ℕ) (ends : List ℕ) → length (directory_from format xs i offset ends) ≡ entry_words format * length ends
length-directory format xs i offset [] = omega arith
length-directory format xs i offset (end ∷ ends) =
    omega (
      arith,
      length-append (entry format (past xs end - 1) end offset) (directory_from format xs end (offset + payload_of_part xs i end) ends),
      entry-is-whole format (past xs end - 1) end offset,
      length-directory format xs end (offset + payload_of_part xs i end) ends,
    )

pub length-words_of : (bits : List ℕ) → length (words_of bits) ≡ (length bits + 63) / 64
length-words_of bits = length-map-range_with_len (λ i. field_at bits (64 * i) 64) 0 ((length bits + 63) / 64)

pub length-sequence : (format : FormatNumbers) → PartLaws → (xs : List ℕ) → AreValues format xs → (ends : List ℕ) → IsPartitionFrom 0 (length xs) ends
    → length (sequence_words format xs ends) ≡ entry_words format * length ends + (cost_from (payload_of_part xs) 0 ends + 63) / 64
length-sequence format laws xs v ends h =
    let payload = payload_from xs 0 ends in
    omega (
      arith,
      length-append (directory_from format xs 0 0 ends) (words_of payload),
      length-directory format xs 0 0 ends,
      length-words_of payload,
      length-payload laws xs v.rising v.in_range 0 ends h,
    )

pub takes-its-cost : (format : FormatNumbers) (room : HasRoom format) → PartLaws → TakesItsCost format
takes-its-cost format room laws xs ends up below h =
    let v : AreValues format xs = are-values format room xs up below in
    omega (arith, length-sequence format laws xs v ends h, charges format xs 0 ends)
