use Rattle.std.proofs.Common.{◌-◌, arith}
use Rattle.index_reading.proofs.Bounds.{bound-more}
use Rattle.index_reading.proofs.joined.all_surely_fit.Goals as goal

pub loop-segment-preserved : goal.loop-segment-preserved
loop-segment-preserved c = λ t.
    bound-more c.args.segments.now t c.loop-segment.segment-index c.loop-segment.room c.bound_of_all-bound.result (c.loop-segment.room - c.bound_of_all-bound.result)
    c.segment-item.result c.loop-segment-test.true c.segment-item.is (c.bound_of_all-bound.ensures t) (omega (arith, c.if-bound-room.false)) (c.loop-segment.invariant t)
