use Rattle.std.proofs.Common.{ℕ, ◌<◌, ◌≤◌, length, slice_index, ◌-◌}
use Rattle.cursor_api.proofs.plain.gallop.Given as goal

abbrev pub invariant-loop-low : goal.invariant-loop-low
invariant-loop-low l = record {
  within : l.low ≤ length l.docs;
  passed : (k : ℕ) → k < l.low → slice_index l.docs k < l.d;
}

abbrev pub decreases-loop-low : goal.decreases-loop-low
decreases-loop-low l = length l.docs - l.low
