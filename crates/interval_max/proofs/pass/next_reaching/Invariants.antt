use Rattle.std.proofs.Common.{◌-◌, ◌≤◌, length}
use Rattle.interval_max.proofs.pass.next_reaching.Given as goal

abbrev pub invariant-loop-at : goal.invariant-loop-at
invariant-loop-at l = record {
  order : l.v ≤ l.at;
  within : l.at ≤ length l.bounds;
}

abbrev pub decreases-loop-at : goal.decreases-loop-at
decreases-loop-at l = length l.bounds - l.at
