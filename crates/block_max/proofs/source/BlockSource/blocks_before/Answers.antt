use Rattle.std.proofs.Common.{ℕ, ◌<◌, List, [], length, arith}
use Rattle.std.proofs.lemmas.List.Sums.{sum_by_more}
use Rattle.block_max.specs.Blocks.{BlockList}
use Rattle.block_max.proofs.source.BlockSource.blocks_before.Goals as goal

pub loop-term-preserved : goal.loop-term-preserved
loop-term-preserved g c =
    let cs : List BlockList = g.Self.BlockSource.lists c.args.self.now in
    let t : ℕ = c.loop-term.term in
    let within : t < length cs = omega (arith, c.loop-term-test.true, c.requires) in
    let more = sum_by_more (λ (c : BlockList). length c.ends) cs t (record { list = []; ends = [] }) within in
    record {
      count = omega (arith, c.from-count.ensures, c.blocks-in-loop-term.ensures, c.loop-term.invariant.count);
      few = omega (arith, c.from-count.ensures, c.loop-term.invariant.few);
    }
