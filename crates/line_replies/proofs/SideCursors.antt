-- The lists and places of cursors over an index, with and without its side file.
use Rattle.std.proofs.Common.{ℕ, List}
use Rattle.collection_model.specs.Collection.{Posting}
use Rattle.collection_model.specs.Sequences.{postings_in}
use Rattle.postings.specs.declared.cursor.PostingCursor.{PostingCursor}
use Rattle.postings.specs.contracts.cursor.PostingCursorDocCursor.TheImpl as plain
use Rattle.block_max.specs.declared.cursor.SideCursor.{SideCursor}
use Rattle.index_blocks.specs.declared.source.IndexBlocks.{IndexBlocks}
use Rattle.index_blocks.specs.contracts.source.IndexBlocksBlockSource.TheImpl as source

-- a cursor over a list of an index with its blocks
abbrev pub InBlocks : Type 0
InBlocks = SideCursor PostingCursor IndexBlocks plain.ghosts source.ghosts

abbrev pub plain_list : PostingCursor → List Posting
plain_list c = postings_in c.docs.sequence.values c.sums.sequence.values

abbrev pub list_at : InBlocks → List Posting
list_at c = plain_list c.cursor

abbrev pub place_at : InBlocks → ℕ
place_at c = c.cursor.docs.place
