use Rattle.std.proofs.Common.{arith}
use Rattle.index_reading.proofs.Joining.{sizes-more, sizes-all}
use Rattle.index_reading.proofs.joined.sizes_in.Goals as goal

pub loop-segment-preserved : goal.loop-segment-preserved
loop-segment-preserved c =
    sizes-more c.args.segments.now c.loop-segment.segment-index c.segment-item.result _ _ c.loop-segment-test.true c.segment-item.is c.loop-segment.invariant c.in_ok-add_sizes.ensures

pub returns : goal.returns
returns c = sizes-all c.args.segments.now c.loop-segment.segment-index _ (omega (arith, c.loop-segment-test.false)) c.loop-segment.invariant
