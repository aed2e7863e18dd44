use Rattle.std.proofs.Common.{◌-◌, arith}
use Rattle.index_reading.proofs.Bounds.{bound-more}
use Rattle.index_reading.proofs.joined.surely_fits.Goals as goal

pub loop-segment-preserved : goal.loop-segment-preserved
loop-segment-preserved c =
    bound-more c.args.segments.now c.args.term c.loop-segment.segment-index c.loop-segment.room c.bound-bound.result (c.loop-segment.room - c.bound-bound.result)
    c.segment-item.result c.loop-segment-test.true c.segment-item.is c.bound-bound.ensures (omega (arith, c.if-bound-room.false)) c.loop-segment.invariant
