-- What holds of the side files of indexes.
use Rattle.std.specs.Prelude.{◌≤◌, List, length}
use Rattle.collection_model.specs.FormatNumbers.{FormatNumbers}
use Rattle.collection_model.specs.Collection.{Collection, WellFormed}
use Rattle.index_file.specs.FileWords.{ListParts, ArePartitions, file_words}
use Rattle.index_file.specs.Builder.{most_words}
use Rattle.block_max.specs.SideWords.{side_words}
use Rattle.index_blocks.specs.BlockLists.{block_lists}

-- The side file of an index that is not too large is not too large. (It may have more words than a
-- packed index: a list of one posting has a block, of one word, and may take two bits.)
abbrev pub SideFilesFit : Type 0
SideFilesFit =
    (format : FormatNumbers) (c : Collection) (parts : List ListParts) → WellFormed format c
    → ArePartitions c.lists parts → length (file_words format c parts) ≤ most_words
    → length (side_words (block_lists c.lists parts)) ≤ most_words
