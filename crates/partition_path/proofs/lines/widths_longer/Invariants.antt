use Rattle.partition_path.proofs.Longer.{LongerTo}
use Rattle.partition_path.proofs.lines.widths_longer.Given as goal

abbrev pub invariant-loop-k : goal.invariant-loop-k
invariant-loop-k l = LongerTo l.number.place l.number.known l.charge l.number.gap l.fn.routes.items l.routes.items l.best l.k
