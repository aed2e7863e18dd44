use Rattle.std.proofs.Common.{◌≡◌, take}
use Rattle.index_reading.specs.JoinedIndexes.{collections_of}
use Rattle.index_reading.specs.JoinedSegments.{collections_in}
use Rattle.index_reading.proofs.joined.JoinedIndexes.new.Given as goal

abbrev pub invariant-loop-opened : goal.invariant-loop-opened
invariant-loop-opened l = collections_in l.joined.segments.items ≡ collections_of (take l.opened-index l.indexes)
