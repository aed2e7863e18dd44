use Rattle.std.proofs.Common.{◌≡◌, ◌≤◌, take}
use Rattle.segments.specs.Totals.{most_total, total_of}
use Rattle.index_reading.specs.JoinedSegments.{collections_in}
use Rattle.index_reading.proofs.joined.passing_segment.Given as goal

abbrev pub invariant-loop-s : goal.invariant-loop-s
invariant-loop-s l =
    (l.total ≡ total_of (take l.s (collections_in l.segments)) l.term) × (l.total ≤ most_total)
