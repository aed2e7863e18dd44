use Rattle.std.proofs.Common.{arith}
use Rattle.index_file.specs.IndexView.{IndexView}
use Rattle.index_blocks.proofs.Read.{lists-count, without-blocks}
use Rattle.index_blocks.proofs.source.IndexBlocksBlockSource.walked_terms.Goals as goal

pub returns-clause-within : goal.returns-clause-within
returns-clause-within c =
    let i : IndexView = c.args.self.now.index.now in
    omega (arith, c.walked_terms.ensures.within, lists-count i.collection.lists i.parts c.stands_for_a_collection.ensures.partitions)

pub returns-clause-rest : goal.returns-clause-rest
returns-clause-rest c t le =
    let i : IndexView = c.args.self.now.index.now in
    without-blocks i.collection.lists i.parts c.stands_for_a_collection.ensures.partitions t (c.walked_terms.ensures.rest t le)
