use Rattle.std.proofs.Common.{ℕ, ◌+◌, ◌≤◌, take}
use Rattle.segments.specs.Totals.{most_total, total_of}
use Rattle.index_reading.specs.JoinedSegments.{collections_in}
use Rattle.index_reading.proofs.joined.all_surely_fit.Given as goal

abbrev pub invariant-loop-segment : goal.invariant-loop-segment
invariant-loop-segment l =
    (t : ℕ) → total_of (take l.segment-index (collections_in l.segments)) t + l.room ≤ most_total
