use Rattle.std.proofs.Common.{arith}
use Rattle.scan_plans.proofs.Marks.{all-marked}
use Rattle.scan_plans.proofs.docs.mark_all.Goals as goal

pub returns-clause-marked : goal.returns-clause-marked
returns-clause-marked c = all-marked c.loop-i.marks (λ j lt. c.loop-i.invariant.marked j (omega arith))
