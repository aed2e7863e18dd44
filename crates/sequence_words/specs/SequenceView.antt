use Rattle.std.specs.Prelude.{ℕ, zero, suc, ◌+◌, ◌≤◌, nat_le, List, map, flat_map, drop, length, slice_index}
use Rattle.std.specs.List.{range_with_len, position_or_len}
use Rattle.collection_model.specs.FormatNumbers.{FormatNumbers}
use Rattle.bit_words.specs.Bits.{bits_of}
use Rattle.part_codec.specs.PartValues.{values_at}
use Rattle.sequence_words.specs.SequenceWords.{BeginsSequence, sequence_words}
use Rattle.sequence_words.specs.SequenceFault.{stated_last, stated_end, stated_count, stated_universe, past_before, payload_before, first_bit}

-- a sequence in parts: the numbers of its format, its values, and the ends of its parts
pub record SequenceView : Type 0 where
  pub format : FormatNumbers
  pub values : List ℕ
  pub ends : List ℕ

-- a place in a sequence, or its end
pub record SequencePlace : Type 0 where
  pub sequence : SequenceView
  pub place : ℕ

-- Words begin with this sequence of m values in so many parts, in its format.
abbrev pub BeginWith : List ℕ → ℕ → ℕ → SequenceView → Type 0
BeginWith words parts m v = (bound : ℕ) × (used : ℕ) × (bound ≤ v.format.most_sum)
    × BeginsSequence v.format m bound parts v.values v.ends words used

-- the ends that so many entries at the front of the words state
abbrev pub ends_stated : FormatNumbers → List ℕ → ℕ → List ℕ
ends_stated format words parts = map (stated_end format words) (range_with_len 0 parts)

-- the last values that they state
abbrev pub lasts_stated : FormatNumbers → List ℕ → ℕ → List ℕ
lasts_stated format words parts = map (stated_last format words) (range_with_len 0 parts)

-- the values of part q, of so many at the front of the words
abbrev pub part_stated : FormatNumbers → List ℕ → ℕ → ℕ → List ℕ
part_stated format words parts q =
    map (λ y. y + past_before format words q)
    (values_at (bits_of words) (first_bit format parts + payload_before format words q)
    (stated_universe format words q) (stated_count format words q))

-- the sequence in so many parts that the words begin with, where they begin with one
unfoldable pub sequence_stated : FormatNumbers → List ℕ → ℕ → SequenceView
sequence_stated format words parts = record {
  format = format;
  values = flat_map (part_stated format words parts) (range_with_len 0 parts);
  ends = ends_stated format words parts;
}

-- how many words the sequence takes
abbrev pub words_used : SequenceView → ℕ
words_used v = length (sequence_words v.format v.values v.ends)

-- where part i begins
abbrev pub start_of_part : List ℕ → ℕ → ℕ
start_of_part ends zero = 0
start_of_part ends (suc i) = slice_index ends i

-- the first place at or after one whose value is at least x, else the end
abbrev pub place_at_least : List ℕ → ℕ → ℕ → ℕ
place_at_least xs place x = place + position_or_len (λ y. nat_le x y) (drop place xs)
