use Rattle.std.specs.Prelude.{◌≡◌, ℕ, ◌<◌, ◌≤◌, List, length}
use Rattle.collection_model.specs.FormatNumbers.{FormatNumbers}
use Rattle.collection_model.specs.Collection.{Collection}
use Rattle.part_cost.specs.declared.formats.Format.{Format}
use Rattle.part_cost.specs.Formats.{numbers_of}
use Rattle.index_file.specs.FileWords.{ListParts, file_words, Spells}
use Rattle.index_file.specs.Builder.{most_words}
use Rattle.command_model.specs.CollectionCut.{AreCut}

-- What one format may hold, the other may hold.
pub record HoldsAllOf (one other : FormatNumbers) : Type 0 where
  pub documents : one.most_documents ≤ other.most_documents
  pub sums : one.most_sum ≤ other.most_sum

-- The words are those of a collection in near-cheapest parts, each of which was counted, and at
-- most so many.
pub record AreWordsOf (format : Format) (c : Collection) (before after : ℕ) (words : List ℕ)
    : Type 0 where
  pub within : length words ≤ most_words
  pub parts : List ListParts
  pub cut : AreCut format (λ built. built ≡ c) before after c parts
  pub spelled : Spells (numbers_of format) words c parts

-- So many words would be those of a collection in near-cheapest parts, each of which was counted,
-- and they are too many.
pub record WouldBeTooMany (format : Format) (c : Collection) (before after n : ℕ) : Type 0 where
  pub too_many : most_words < n
  pub parts : List ListParts
  pub cut : AreCut format (λ built. built ≡ c) before after c parts
  pub count : n ≡ length (file_words (numbers_of format) c parts)
