use Rattle.std.proofs.Common.{◌≤◌}
use Rattle.worked_codes.proofs.codecs.patterns.Given as goal

abbrev pub invariant-loop-pattern : goal.invariant-loop-pattern
invariant-loop-pattern l = l.count ≤ l.pattern
