use Rattle.std.proofs.Common.{◌<◌, List, length, arith}
use Rattle.block_max.specs.Blocks.{BlockList}
use Rattle.block_max.proofs.SideChecks.{first-of-all}
use Rattle.block_max.proofs.side.first_wrong.Goals as goal

pub returns-in-Some-clause-some : goal.returns-in-Some-clause-some
returns-in-Some-clause-some g c =
    let cs : List BlockList = g.S.BlockSource.lists c.args.source.now in
    let term : c.loop-term.term < length cs = omega (arith, c.loop-term-test.true, c.walked_terms-term-end.ensures.within) in
    first-of-all cs c.args.words.now c.loop-term.term c.in-Some.part term c.loop-term.invariant.right c.in-Some.ensures.some
