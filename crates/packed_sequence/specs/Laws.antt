use Rattle.std.specs.Prelude.{◌≡◌, ℕ, ◌+◌, ◌*◌, ◌^◌, ◌<◌, ◌≤◌, List, length}
use Rattle.std.specs.List.{All}
use Rattle.std.specs.List.Sorted.{IsStrictlyIncreasing}
use Rattle.bit_words.specs.Bits.{bits_of}
use Rattle.collection_model.specs.FormatNumbers.{format_three}
use Rattle.part_cost.specs.Partition.{IsPartition}
use Rattle.two_level.specs.SequenceWords.{sequence_words}
use Rattle.packed_sequence.specs.declared.last_field.LastField.{LastField}
use Rattle.packed_sequence.specs.SequenceBits.{sequence_bits}
use Rattle.packed_sequence.specs.SequencePlaces.{IsSequenceBefore}
use Rattle.packed_sequence.specs.SequenceStated.{sequence_at}

-- The words of a sequence of the third format, of fewer than 2 ^ 32 values, are below 2 ^ 64.
abbrev pub SequenceWordsFit : Type 0
SequenceWordsFit =
    (xs ends : List ℕ) → IsStrictlyIncreasing xs → All (λ x. x < format_three.most_sum) xs
    → length xs < 2 ^ 32 → IsPartition (length xs) ends
    → All (λ w. w < 2 ^ 64) (sequence_words format_three xs ends)

-- Where the bits of a sequence of two values and more stand in words, they state it in its parts,
-- and the place behind them.
abbrev pub SequencesStateBack : Type 0
SequencesStateBack =
    (last : LastField) (m at : ℕ) (words xs ends : List ℕ) → 2 ≤ m → m < 2 ^ 32
    → All (λ w. w < 2 ^ 64) words
    → IsSequenceBefore last m format_three.most_sum (bits_of words) at (64 * length words) xs ends
    → sequence_at last m words at ≡ record {
      view = record { format = format_three; values = xs; ends = ends };
      behind = at + length (sequence_bits last at xs ends);
    }
