use Rattle.interval_max.specs.Search.{AreSettled}
use Rattle.interval_max.proofs.pass.settle.Given as goal

abbrev pub invariant-loop-j : goal.invariant-loop-j
invariant-loop-j l = AreSettled l.fn.from l.j l.initial.bounds l.bounds
