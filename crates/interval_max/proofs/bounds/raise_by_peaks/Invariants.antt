use Rattle.std.proofs.Common.{◌≡◌, ℕ, ◌+◌, ◌*◌, ◌<◌, take, length, slice_index}
use Rattle.interval_max.specs.Peaks.{peak_at}
use Rattle.interval_max.proofs.bounds.raise_by_peaks.Given as goal

abbrev pub invariant-loop-peak : goal.invariant-loop-peak
invariant-loop-peak l = (v : ℕ) → v < length l.initial.bounds → slice_index l.bounds v ≡ slice_index l.initial.bounds v + l.weight * peak_at (take l.peak-index l.peaks) v
