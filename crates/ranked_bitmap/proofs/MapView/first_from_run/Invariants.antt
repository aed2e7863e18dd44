use Rattle.std.proofs.Common.{◌-◌, ◌+◌, ◌*◌, ◌≤◌}
use Rattle.bit_words.specs.Bits.{bits_of, ones_between}
use Rattle.ranked_bitmap.proofs.MapView.first_from_run.Given as goal

abbrev pub invariant-gallop : goal.invariant-gallop
invariant-gallop g l = record {
  within : l.low ≤ l.last;
  some : 1 ≤ l.step;
  near : l.step ≤ 2 * l.last + 1;
  few : ones_between (bits_of l.self.part.bits.words.now) l.self.part.place (l.self.part.place + g.row.B * l.low) ≤ l.k;
}

abbrev pub decreases-gallop : goal.decreases-gallop
decreases-gallop g l = l.last - l.low
