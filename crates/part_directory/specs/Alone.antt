use Rattle.std.specs.Prelude.{◌≡◌, ℕ, ◌+◌, ◌*◌, ◌≤◌, ◌==◌, if◌then◌else◌, List, [], ◌∷◌, length, Option, Some, None}
use Rattle.collection_model.specs.FormatNumbers.{FormatNumbers}
use Rattle.bit_words.specs.Bits.{bits_of}
use Rattle.part_cost.specs.Span.{past}
use Rattle.part_cost.specs.Stored.{HoldsPart}
use Rattle.part_codec.specs.PartBits.{part_bits}
use Rattle.part_codec.specs.PartValues.{values_at}
use Rattle.part_directory.specs.declared.alone.Alone.{Alone}
use Rattle.sequence_words.specs.SequenceWords.{sequence_words}
use Rattle.sequence_words.specs.SequenceView.{SequenceView, sequence_stated}

-- the values of a sequence of m values whose one part stands alone: one value is the last, and
-- takes no bits
abbrev pub alone_values : List ℕ → ℕ → Alone → List ℕ
alone_values bits m a = if m == 1 then a.last ∷ [] else values_at bits a.place (a.last + 1) m

-- the sequence whose one part stands alone
abbrev pub alone_view : FormatNumbers → List ℕ → ℕ → Alone → SequenceView
alone_view format bits m a = record {
  format = format;
  values = alone_values bits m a;
  ends = m ∷ [];
}

-- the words with which a sequence begins: those that are lent, or, where its one part stands alone
-- in them, those that the sequence would take
unfoldable pub words_begun : FormatNumbers → List ℕ → ℕ → Option Alone → List ℕ
words_begun format words m None = words
words_begun format words m (Some a) =
    sequence_words format (alone_values (bits_of words) m a) (m ∷ [])

-- The one part of a sequence stands alone at a place of the words; the bits of one value need not
-- be there.
pub record StandsAlone (format : FormatNumbers) (words : List ℕ) (m parts : ℕ) (a : Alone) : Type 0
  where
    pub one : parts ≡ 1
    pub view : sequence_stated format (words_begun format words m (Some a)) parts
        ≡ alone_view format (bits_of words) m a
    pub last : past (alone_values (bits_of words) m a) m ≡ a.last + 1
    pub place : a.place ≤ 64 * length words
    pub part : 2 ≤ m → HoldsPart part_bits (bits_of words) a.place (a.last + 1) m
        (values_at (bits_of words) a.place (a.last + 1) m)
