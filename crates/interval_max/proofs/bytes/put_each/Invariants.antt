use Rattle.std.proofs.Common.{◌≡◌, ℕ, take, length, slice_index}
use Rattle.std.specs.Int.{div_ceil}
use Rattle.interval_max.specs.Peaks.{peak_at}
use Rattle.interval_max.proofs.bytes.put_each.Given as goal

abbrev pub invariant-loop-peak : goal.invariant-loop-peak
invariant-loop-peak l = record {
  count_is : length l.bytes.items ≡ l.count;
  each : (v : ℕ) → slice_index l.bytes.items v ≡ div_ceil (peak_at (take l.peak-index l.peaks) v) l.step;
}
