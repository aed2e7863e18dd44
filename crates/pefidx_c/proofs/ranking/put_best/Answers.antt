use Rattle.std.proofs.Common.{refl, ◌+◌, arith}
use Rattle.pefidx_c.proofs.Putting.{best-more}
use Rattle.pefidx_c.proofs.ranking.put_best.Goals as goal

pub loop-i-preserved : goal.loop-i-preserved
loop-i-preserved c =
    best-more c.args.room.now c.loop-i.room _ c.args.found.now c.loop-i.i (c.loop-i.i + 1) (0, 0) refl
    (omega (arith, c.loop-i-test.true, c.min-count.ensures)) (omega (arith, c.loop-i-test.true, c.min-count.ensures)) c.loop-i.invariant refl
