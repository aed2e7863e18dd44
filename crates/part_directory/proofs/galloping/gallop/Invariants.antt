use Rattle.std.proofs.Common.{◌≡◌, ◌+◌, ◌-◌, ◌≤◌, ◌<◌, length}
use Rattle.std.specs.Prelude.{slice_index}
use Rattle.part_cost.specs.Payload.{digits}
use Rattle.part_directory.proofs.galloping.gallop.Given as goal

abbrev pub invariant-loop-low : goal.invariant-loop-low
invariant-loop-low g l = record {
  after : l.from ≤ l.low;
  up : l.low ≤ l.high;
  near : l.high ≤ l.low + (l.low - l.from - 1);
  within : l.high ≤ length (g.D.Lasts.lasts l.d);
  probe : l.high < length (g.D.Lasts.lasts l.d) → l.high ≡ l.low + (l.low - l.from - 1);
  before : l.from < l.low → slice_index (g.D.Lasts.lasts l.d) (l.low - 1) < l.x;
  counted : l.fn.probes ≤ l.probes;
  bounded : l.probes ≤ l.fn.probes + digits (l.low - l.from);
  round : l.from < l.low → digits (l.low - l.from - 1) + 1 ≤ digits (l.low - l.from);
}

abbrev pub decreases-loop-low : goal.decreases-loop-low
decreases-loop-low g l = length (g.D.Lasts.lasts l.d) - l.high
