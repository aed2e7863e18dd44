use Rattle.std.proofs.Common.{◌∙◌, sym}
use Rattle.index_file.specs.IndexView.{IndexView}
use Rattle.index_blocks.proofs.Read.{ends-at, term-within}
use Rattle.index_blocks.proofs.source.IndexBlocksBlockSource.blocks.Goals as goal

pub blocks-requires : goal.blocks-requires
blocks-requires c =
    let i : IndexView = c.args.self.now.index.now in
    record { within = term-within i.collection.lists i.parts c.stands_for_a_collection.ensures.partitions c.args.t c.requires }

pub returns : goal.returns
returns c =
    let i : IndexView = c.args.self.now.index.now in
    let are = c.stands_for_a_collection.ensures.partitions in
    c.blocks-2.ensures ∙ sym (ends-at i.collection.lists i.parts are c.args.t (term-within i.collection.lists i.parts are c.args.t c.requires))
