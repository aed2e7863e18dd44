use Rattle.std.proofs.Common.{◌-◌, arith}
use Rattle.part_directory.proofs.Probes.{half-digits, before-found}
use Rattle.part_directory.proofs.galloping.halve.Goals as goal

pub loop-low-preserved : goal.loop-low-preserved
loop-low-preserved g c =
    let i = c.loop-low.invariant in
    let e = c.half.ensures in
    let less = half-digits (c.loop-low.high - c.loop-low.low) (c.half.result.1 - c.half.result.0) (omega (arith, c.loop-low-test.true)) (omega (arith, e.halved)) (omega (arith, i.inside, c.ranges.to)) in
    record {
      after = omega (arith, i.after, e.after);
      up = e.up;
      inside = omega (arith, i.inside, e.within);
      before = before-found (g.D.Lasts.lasts c.args.d.now) c.args.from c.loop-low.low c.half.result.0 c.args.x e.after i.before e.before;
      reached = e.behind.reached;
      counted = omega (arith, i.counted, e.counted);
      bounded = omega (arith, i.bounded, e.bounded, less);
    }
