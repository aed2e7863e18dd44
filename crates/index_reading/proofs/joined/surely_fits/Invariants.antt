use Rattle.std.proofs.Common.{◌+◌, ◌≤◌, take}
use Rattle.segments.specs.Totals.{most_total, total_of}
use Rattle.index_reading.specs.JoinedSegments.{collections_in}
use Rattle.index_reading.proofs.joined.surely_fits.Given as goal

abbrev pub invariant-loop-segment : goal.invariant-loop-segment
invariant-loop-segment l =
    total_of (take l.segment-index (collections_in l.segments)) l.term + l.room ≤ most_total
