use Rattle.std.proofs.Common.{ℕ, ◌<◌, ◌≤◌}
use Rattle.segments.specs.Totals.{most_total, total_of}
use Rattle.index_reading.specs.JoinedSegments.{collections_in}
use Rattle.index_reading.proofs.joined.JoinedIndexes.too_frequent.Given as goal

abbrev pub invariant-loop-term : goal.invariant-loop-term
invariant-loop-term l =
    (t : ℕ) → t < l.term → total_of (collections_in l.self.segments.items) t ≤ most_total
