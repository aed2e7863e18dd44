-- The lists of an index in blocks.
use Rattle.std.specs.Prelude.{ℕ, ◌+◌, ◌*◌, ◌/◌, max, List, map, length}
use Rattle.std.specs.List.{range_with_len}
use Rattle.collection_model.specs.Collection.{Posting}
use Rattle.index_file.specs.FileWords.{CutList, ListParts, with_parts}
use Rattle.index_file.specs.IndexView.{IndexView, word_count}
use Rattle.block_max.specs.Blocks.{BlockList, blocks_before}

-- a list, whose blocks are the parts of its documents
abbrev pub block_list : CutList → BlockList
block_list c = record { list = c.list; ends = c.parts.doc_ends }

-- the lists of a collection that are cut so, in blocks
abbrev pub block_lists : List (List Posting) → List ListParts → List BlockList
block_lists lists parts = map block_list (with_parts lists parts)

-- those of an index
abbrev pub blocks_of_index : IndexView → List BlockList
blocks_of_index i = block_lists i.collection.lists i.parts

-- from how many lists to how many it is told how many blocks stand before them: at each, where the
-- file has more than two words for it
abbrev pub lists_a_start : IndexView → ℕ
lists_a_start i = 2 * length i.collection.lists / max (word_count i) 1 + 1

-- how many blocks stand before the lists where it is told
abbrev pub block_starts : IndexView → List ℕ
block_starts i = map (λ k. blocks_before (blocks_of_index i) (k * lists_a_start i))
    (range_with_len 0 (length i.collection.lists / lists_a_start i + 1))
