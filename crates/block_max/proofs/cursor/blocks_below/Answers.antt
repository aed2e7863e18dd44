use Rattle.std.proofs.Common.{◌≡◌, sym, subst, ℕ, ◌≤◌, List, arith}
use Rattle.block_max.specs.Blocks.{BlockList, nth_block}
use Rattle.block_max.proofs.Finds.{before-kept, below-is}
use Rattle.block_max.proofs.cursor.blocks_below.Goals as goal

pub loop-low-preserved : goal.loop-low-preserved
loop-low-preserved g c =
    let i = c.loop-low.invariant in
    let e = c.half.ensures in
    let cs : List BlockList = g.S.BlockSource.lists c.args.source.now in
    record {
      up = e.up;
      within = omega (arith, i.within, e.within);
      before = before-kept cs c.args.t c.loop-low.low c.half.result.0 c.args.doc e.after i.before e.before;
      reached = e.reached;
    }

pub returns-clause-first : goal.returns-clause-first
returns-clause-first g c =
    let i = c.loop-low.invariant in
    let cs : List BlockList = g.S.BlockSource.lists c.args.source.now in
    below-is cs c.args.t c.loop-low.low c.args.doc (g.met.S.BlockSource.cut c.args.source.now) c.requires.within (omega (arith, i.up, i.within)) i.before
    (λ inside. let same : c.loop-low.low ≡ c.loop-low.high = omega (arith, i.up, c.loop-low-test.false) in
    subst (λ (k : ℕ). c.args.doc ≤ (nth_block cs c.args.t k).last) (sym same) (i.reached (omega (arith, inside, same))))
