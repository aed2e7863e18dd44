-- The index whose lists stand in blocks.
use Rattle.index_file.specs.IndexView.{IndexView}
use Rattle.index_blocks.specs.declared.source.IndexBlocks.{IndexBlocks}

-- that index
abbrev pub index_seen : IndexBlocks → IndexView
index_seen blocks = blocks.index.now
