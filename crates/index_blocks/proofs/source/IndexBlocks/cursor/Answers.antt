use Rattle.std.proofs.Common.{◌∙◌, sym, ap, List, arith}
use Rattle.block_max.specs.Blocks.{BlockList}
use Rattle.index_file.specs.IndexView.{IndexView}
use Rattle.index_blocks.proofs.Read.{list-at, lists-count}
use Rattle.index_blocks.proofs.source.IndexBlocks.cursor.Goals as goal

pub new-requires-clause-within : goal.new-requires-clause-within
new-requires-clause-within c =
    let i : IndexView = c.args.self.now.index.now in
    omega (arith, c.requires.within, lists-count i.collection.lists i.parts c.stands_for_a_collection.ensures.partitions)

pub new-requires-clause-of_source : goal.new-requires-clause-of_source
new-requires-clause-of_source c =
    let i : IndexView = c.args.self.now.index.now in
    c.cursor.ensures.list ∙ sym (ap (λ (b : BlockList). b.list) (list-at i.collection.lists i.parts c.stands_for_a_collection.ensures.partitions c.args.t c.requires.within))
