use Rattle.std.proofs.Common.{ℕ, ◌-◌, ◌<◌, ◌≤◌, length, slice_index}
use Rattle.interval_max.specs.Search.{AreSettled}
use Rattle.interval_max.proofs.pass.settle_below.Given as goal

abbrev pub invariant-loop-at : goal.invariant-loop-at
invariant-loop-at l = record {
  order : l.v ≤ l.at;
  within : l.at ≤ length l.initial.bounds;
  low : (j : ℕ) → l.v ≤ j → j < l.at → slice_index l.initial.bounds j < l.least;
  settled : AreSettled l.v l.at l.initial.bounds l.bounds;
}

abbrev pub decreases-loop-at : goal.decreases-loop-at
decreases-loop-at l = length l.initial.bounds - l.at

abbrev pub invariant-loop-at-2 : goal.invariant-loop-at-2
invariant-loop-at-2 l = record {
  order : l.v ≤ l.at;
  within : l.at ≤ length l.initial.bounds;
  low : (j : ℕ) → l.v ≤ j → j < l.at → slice_index l.initial.bounds j < l.least;
  settled : AreSettled l.v l.at l.initial.bounds l.bounds;
}

abbrev pub decreases-loop-at-2 : goal.decreases-loop-at-2
decreases-loop-at-2 l = length l.initial.bounds - l.at
