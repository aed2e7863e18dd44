use Rattle.std.proofs.Common.{◌+◌, ◌-◌, ◌≤◌, ◌<◌, length}
use Rattle.std.specs.Prelude.{slice_index}
use Rattle.part_cost.specs.Payload.{digits}
use Rattle.part_directory.proofs.galloping.halve.Given as goal

abbrev pub invariant-loop-low : goal.invariant-loop-low
invariant-loop-low g l = record {
  after : l.from ≤ l.low;
  up : l.low ≤ l.high;
  inside : l.high ≤ l.to;
  before : l.from < l.low → slice_index (g.D.Lasts.lasts l.d) (l.low - 1) < l.x;
  reached : l.high < length (g.D.Lasts.lasts l.d) → l.x ≤ slice_index (g.D.Lasts.lasts l.d) l.high;
  counted : l.fn.probes ≤ l.probes;
  bounded : l.probes + digits (l.high - l.low) ≤ l.fn.probes + digits (l.to - l.from);
}

abbrev pub decreases-loop-low : goal.decreases-loop-low
decreases-loop-low g l = l.high - l.low
