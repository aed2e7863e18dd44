use Rattle.std.proofs.Common.{◌≡◌, ℕ, ◌+◌, ◌*◌, ◌<◌, ◌≤◌, take, drop, length, get_or}
use Rattle.std.specs.Int.{div_ceil}
use Rattle.interval_max.specs.Bytes.{ArePairs, paired_byte, pairs_in, reach}
use Rattle.interval_max.specs.Peaks.{peak_at}
use Rattle.interval_max.specs.declared.peaks.Peak.{Peak}
use Rattle.interval_max.proofs.Room.{pairs_for}
use Rattle.interval_max.proofs.bytes.put_pairs.Given as goal

abbrev pub invariant-loop-peak : goal.invariant-loop-peak
invariant-loop-peak l = record {
  left : l.pairs + pairs_for l.behind (drop l.peak-index l.peaks) ≡ pairs_for 0 l.peaks;
  few : l.pairs ≤ l.behind;
  small : l.behind ≤ 4294967296;
  low : (k : ℕ) (d : Peak) → l.peak-index ≤ k → k < length l.peaks → l.behind ≤ (get_or l.peaks k d).interval;
}

abbrev pub invariant-loop-peak-2 : goal.invariant-loop-peak-2
invariant-loop-peak-2 l = record {
  left : l.at + 2 * pairs_for l.next (drop l.peak-index l.peaks) ≡ length l.bytes.items;
  pairs : ArePairs (take l.at l.bytes.items);
  reach_is : reach (pairs_in (take l.at l.bytes.items)) ≡ l.next;
  each : (v : ℕ) → paired_byte 0 (pairs_in (take l.at l.bytes.items)) v ≡ div_ceil (peak_at (take l.peak-index l.peaks) v) l.step;
  low : (k : ℕ) (d : Peak) → l.peak-index ≤ k → k < length l.peaks → l.next ≤ (get_or l.peaks k d).interval;
}
