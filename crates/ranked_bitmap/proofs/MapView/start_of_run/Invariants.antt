use Rattle.std.proofs.Common.{◌-◌, ◌+◌, ◌*◌, ◌/◌, ◌≤◌}
use Rattle.bit_words.specs.Bits.{bits_of, ones_between}
use Rattle.ranked_bitmap.proofs.MapView.start_of_run.Given as goal

abbrev pub invariant-loop-low : goal.invariant-loop-low
invariant-loop-low g l = record {
  up : l.low ≤ l.high;
  within : l.high ≤ (l.self.part.u - 1) / g.row.B;
  few : ones_between (bits_of l.self.part.bits.words.now) l.self.part.place (l.self.part.place + g.row.B * l.low) ≤ l.k;
}

abbrev pub decreases-loop-low : goal.decreases-loop-low
decreases-loop-low g l = l.high - l.low
