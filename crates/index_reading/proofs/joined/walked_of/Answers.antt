use Rattle.std.proofs.Common.{arith}
use Rattle.index_reading.proofs.Joining.{walked-none, walked-more, walked-all}
use Rattle.index_reading.proofs.joined.walked_of.Goals as goal

pub loop-segment-init : goal.loop-segment-init
loop-segment-init c = walked-none c.args.segments.now

pub loop-segment-preserved : goal.loop-segment-preserved
loop-segment-preserved c =
    walked-more c.args.segments.now c.loop-segment.segment-index c.loop-segment.most c.walked_terms.result c.max-most.result c.segment-item.result
    c.loop-segment-test.true c.segment-item.is c.walked_terms.ensures.within c.walked_terms.ensures.rest c.max-most.ensures c.loop-segment.invariant

pub returns : goal.returns
returns c =
    let all = walked-all c.args.segments.now c.loop-segment.segment-index c.loop-segment.most (omega (arith, c.loop-segment-test.false)) c.loop-segment.invariant in
    record { within = all.0; rest = all.1 }
