use Rattle.std.specs.Prelude.{ℕ, ◌*◌, ◌^◌, ◌<◌, ◌≤◌, List, length}
use Rattle.std.specs.List.{All}
use Rattle.bit_words.specs.Bits.{bits_of}
use Rattle.collection_model.specs.FormatNumbers.{format_three}
use Rattle.two_level.specs.SequenceView.{SequenceView}
use Rattle.packed_sequence.specs.declared.behind.Behind.{Behind}
use Rattle.packed_sequence.specs.Behind.{place_behind, IsInRange}
use Rattle.packed_sequence.specs.SequenceBits.{last_sum}
use Rattle.packed_sequence.specs.SequencePlaces.{IsSequenceBefore}
use Rattle.packed_sequence.specs.SequenceStated.{sequence_at}

-- the sums of m frequencies, none above the greatest, that words state behind the documents
abbrev pub sums_at : List ℕ → Behind → ℕ → ℕ → SequenceView
sums_at words docs m greatest =
    (sequence_at (last_sum m greatest) m words (place_behind docs m)).view

-- They are these sums, in these parts.
abbrev pub AreSums : List ℕ → Behind → ℕ → ℕ → List ℕ → List ℕ → Type 0
AreSums words docs m greatest sums ends =
    IsSequenceBefore (last_sum m greatest) m format_three.most_sum (bits_of words)
    (place_behind docs m) (64 * length words) sums ends

-- Sums stand there, of two frequencies or more.
pub record SumsStand (words : List ℕ) (docs : Behind) (m greatest : ℕ) : Type 0 where
  pub lent : length words < 2 ^ 57
  pub words_fit : All (λ w. w < 2 ^ 64) words
  pub many : 2 ≤ m
  pub few : m < 2 ^ 32
  pub some : 1 ≤ greatest
  pub range : IsInRange docs m
  pub sums : List ℕ
  pub ends : List ℕ
  pub stand : AreSums words docs m greatest sums ends
