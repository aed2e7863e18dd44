use Rattle.std.proofs.Common.{◌∙◌, sym}
use Rattle.index_file.specs.IndexView.{IndexView}
use Rattle.index_blocks.proofs.Read.{last-at, part-within, term-within}
use Rattle.index_blocks.proofs.source.IndexBlocksBlockSource.last.Goals as goal

pub block_last-requires-clause-within : goal.block_last-requires-clause-within
block_last-requires-clause-within c =
    let i : IndexView = c.args.self.now.index.now in
    term-within i.collection.lists i.parts c.stands_for_a_collection.ensures.partitions c.args.t c.requires.term

pub block_last-requires-clause-part : goal.block_last-requires-clause-part
block_last-requires-clause-part c =
    let i : IndexView = c.args.self.now.index.now in
    let are = c.stands_for_a_collection.ensures.partitions in
    part-within i.collection.lists i.parts are c.args.t (term-within i.collection.lists i.parts are c.args.t c.requires.term) c.args.q c.requires.block

pub returns : goal.returns
returns c =
    let i : IndexView = c.args.self.now.index.now in
    let are = c.stands_for_a_collection.ensures.partitions in
    let within = term-within i.collection.lists i.parts are c.args.t c.requires.term in
    c.block_last.ensures ∙ sym (last-at i.collection.lists i.parts are c.args.t within c.args.q (part-within i.collection.lists i.parts are c.args.t within c.args.q c.requires.block))
