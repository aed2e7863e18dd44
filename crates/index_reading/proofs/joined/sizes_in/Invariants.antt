use Rattle.std.proofs.Common.{◌≡◌, take}
use Rattle.std.specs.Prelude.{flat_map}
use Rattle.collection_model.specs.Collection.{Collection}
use Rattle.index_reading.specs.JoinedSegments.{collections_in}
use Rattle.index_reading.proofs.joined.sizes_in.Given as goal

abbrev pub invariant-loop-segment : goal.invariant-loop-segment
invariant-loop-segment l =
    l.sizes.items ≡ flat_map (λ (c : Collection). c.sizes) (take l.segment-index (collections_in l.segments))
