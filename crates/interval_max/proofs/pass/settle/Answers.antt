use Rattle.std.proofs.Common.{arith}
use Rattle.interval_max.proofs.Settled.{none-settled, settled-more}
use Rattle.interval_max.proofs.pass.settle.Goals as goal

pub loop-j-init : goal.loop-j-init
loop-j-init c = none-settled c.args.from c.args.bounds.now

pub loop-j-preserved : goal.loop-j-preserved
loop-j-preserved c = settled-more c.args.from c.loop-j.j c.args.bounds.now c.loop-j.bounds (omega arith) (omega arith) c.loop-j.invariant
