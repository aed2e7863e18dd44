use Rattle.std.proofs.Common.{arith}
use Rattle.index_reading.proofs.Joining.{terms-more, terms-all}
use Rattle.index_reading.proofs.joined.terms_of.Goals as goal

pub loop-segment-preserved : goal.loop-segment-preserved
loop-segment-preserved c =
    terms-more c.args.segments.now c.loop-segment.segment-index c.loop-segment.most c.terms.result c.max-most.result c.segment-item.result
    c.loop-segment-test.true c.segment-item.is c.terms.ensures c.max-most.ensures c.loop-segment.invariant

pub returns : goal.returns
returns c = terms-all c.args.segments.now c.loop-segment.segment-index c.loop-segment.most (omega (arith, c.loop-segment-test.false)) c.loop-segment.invariant
