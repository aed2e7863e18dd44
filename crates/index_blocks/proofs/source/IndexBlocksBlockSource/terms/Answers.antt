use Rattle.std.proofs.Common.{◌∙◌, sym}
use Rattle.index_file.specs.IndexView.{IndexView}
use Rattle.index_blocks.proofs.Read.{lists-count}
use Rattle.index_blocks.proofs.source.IndexBlocksBlockSource.terms.Goals as goal

pub returns : goal.returns
returns c =
    let i : IndexView = c.args.self.now.index.now in
    c.terms.ensures ∙ sym (lists-count i.collection.lists i.parts c.stands_for_a_collection.ensures.partitions)
