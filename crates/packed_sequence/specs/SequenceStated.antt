use Rattle.std.specs.Prelude.{ℕ, ◌+◌, ◌*◌, ◌/◌, ◌==◌, if◌then◌else◌, List, [], ◌∷◌, drop, slice_index}
use Rattle.bit_words.specs.Bits.{bits_of, field_at}
use Rattle.collection_model.specs.FormatNumbers.{format_three}
use Rattle.part_cost.specs.Payload.{digits, payload}
use Rattle.part_codec.specs.PartValues.{values_at}
use Rattle.two_level.specs.SequenceView.{SequenceView, sequence_stated}
use Rattle.two_level.specs.SequenceFault.{word_behind}
use Rattle.packed_sequence.specs.declared.last_field.LastField.{LastField}

-- a sequence that bits state, and the place behind its bits
pub record SequenceAt : Type 0 where
  pub view : SequenceView
  pub behind : ℕ

-- the sequence of m values that stands as one part: the last value is that of the field, and the
-- part stands behind it
abbrev pub lone_at : LastField → ℕ → List ℕ → ℕ → SequenceAt
lone_at last m bits at = record {
  view = record { format = format_three; values = values_at bits place (end + 1) m; ends = m ∷ [] };
  behind = place + payload (end + 1) m;
}
  where
    end : ℕ
    end = field_at bits (at + 1) last.width + last.less

    place : ℕ
    place = at + 1 + last.width

-- the sequence of m values in several parts, whose words stand from the next word on
abbrev pub parted_at : ℕ → List ℕ → ℕ → SequenceAt
parted_at m words at = record {
  view = sequence_stated format_three (drop p words) parts;
  behind = 64 * (p + word_behind format_three (drop p words) parts);
}
  where
    parts : ℕ
    parts = field_at (bits_of words) (at + 1) (digits m)

    p : ℕ
    p = (at + 1 + digits m + 63) / 64

-- the sequence of m values whose bits stand at a place of words
abbrev pub sequence_at : LastField → ℕ → List ℕ → ℕ → SequenceAt
sequence_at last m words at = if slice_index (bits_of words) at == 1 then parted_at m words at
    else lone_at last m (bits_of words) at
