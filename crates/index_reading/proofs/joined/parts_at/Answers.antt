use Rattle.index_reading.proofs.Joining.{lists-pushed, starts-pushed}
use Rattle.index_reading.proofs.joined.parts_at.Invariants.{list_at}
use Rattle.index_reading.proofs.joined.parts_at.Goals as goal

pub loop-segment-preserved : goal.loop-segment-preserved
loop-segment-preserved c = record {
  lists = lists-pushed list_at c.args.segments.now c.args.term c.loop-segment.segment-index c.loop-segment.parts.items c.push.new.self.items c.segment-item.result c.cursor.result
      c.loop-segment.invariant.lists c.in_ok-push.ensures.items c.cursor.ensures.list c.segment-item.is c.loop-segment-test.true;
  start = starts-pushed (λ p. p.docs.place) c.loop-segment.parts.items c.push.new.self.items c.segment-item.result.first c.cursor.result c.loop-segment.invariant.start c.in_ok-push.ensures.items c.cursor.ensures.start;
}
