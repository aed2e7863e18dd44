use Rattle.std.proofs.Common.{◌≡◌, take}
use Rattle.segments.specs.Joined.{most_terms_in}
use Rattle.index_reading.specs.JoinedSegments.{collections_in}
use Rattle.index_reading.proofs.joined.terms_of.Given as goal

abbrev pub invariant-loop-segment : goal.invariant-loop-segment
invariant-loop-segment l = l.most ≡ most_terms_in (take l.segment-index (collections_in l.segments))
