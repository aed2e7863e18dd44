use Rattle.std.specs.Prelude.{◌≡◌, ℕ, ◌<◌, ◌≤◌, List, length}
use Rattle.std.specs.List.{All}
use Rattle.collection_model.specs.FormatNumbers.{FormatNumbers}
use Rattle.collection_model.specs.Collection.{Collection}
use Rattle.index_file.specs.FileWords.{ListParts, with_parts, file_words, ArePartitions, Spells}
use Rattle.index_file.specs.Builder.{IsNearCut, most_words}

-- The words are those of a collection in a format, cut near-cheapest by the bits that its sequences
-- take in the file, and at most so many.
pub record AreWordsOf (format : FormatNumbers) (c : Collection) (words : List ℕ) : Type 0 where
  pub within : length words ≤ most_words
  pub parts : List ListParts
  pub near : All (IsNearCut format) (with_parts c.lists parts)
  pub spelled : Spells format words c parts

-- So many words would be those of a collection that is cut so, and they are too many.
pub record WouldBeTooMany (format : FormatNumbers) (c : Collection) (n : ℕ) : Type 0 where
  pub too_many : most_words < n
  pub parts : List ListParts
  pub near : All (IsNearCut format) (with_parts c.lists parts)
  pub partitions : ArePartitions c.lists parts
  pub count : n ≡ length (file_words format c parts)
