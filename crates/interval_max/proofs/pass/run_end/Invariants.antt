use Rattle.std.proofs.Common.{ℕ, ◌+◌, ◌-◌, ◌<◌, ◌≤◌, ◌≢◌, length, slice_index}
use Rattle.interval_max.proofs.pass.run_end.Given as goal

abbrev pub invariant-loop-at : goal.invariant-loop-at
invariant-loop-at l = record {
  later : l.v < l.end;
  order : l.end ≤ l.at;
  within : l.at ≤ length l.bounds;
  short : l.at ≤ l.v + 32;
  some : (j : ℕ) → l.v ≤ j → j < l.at → slice_index l.bounds j ≢ 0;
}

abbrev pub decreases-loop-at : goal.decreases-loop-at
decreases-loop-at l = length l.bounds - l.at
