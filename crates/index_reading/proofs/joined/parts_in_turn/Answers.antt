use Rattle.std.proofs.Common.{arith}
use Rattle.index_reading.proofs.InTurn.{placed-pushed, placed-all, before-pushed}
use Rattle.index_reading.proofs.joined.parts_in_turn.Goals as goal

pub loop-segment-preserved : goal.loop-segment-preserved
loop-segment-preserved c = record {
  placed = placed-pushed c.args.segments.now c.loop-segment.segment-index c.loop-segment.parts.items c.push.new.self.items c.segment-item.result _ c.loop-segment-test.true c.segment-item.is c.loop-segment.invariant.placed
      c.in_ok-push.ensures.items (λ _. c.segment-item.result.first) c.lists_in_turn-lists.ensures.collection;
  start = before-pushed c.loop-segment.parts.items c.push.new.self.items _ c.loop-segment.invariant.start c.in_ok-push.ensures.items c.lists_in_turn-lists.ensures.empty;
}

pub returns-clause-placed : goal.returns-clause-placed
returns-clause-placed c = placed-all c.args.segments.now c.loop-segment.segment-index c.loop-segment.parts.items (omega (arith, c.loop-segment-test.false)) c.loop-segment.invariant.placed
