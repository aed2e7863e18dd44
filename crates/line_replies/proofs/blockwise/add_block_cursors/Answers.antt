use Rattle.std.proofs.Common.{ap, [], ◌∷◌, length, length-append, arith}
use Rattle.scan_plans.proofs.AskedLists.{lists-pushed, starts-pushed}
use Rattle.line_replies.proofs.SideCursors.{list_at, place_at}
use Rattle.line_replies.proofs.blockwise.add_block_cursors.Goals as goal

pub loop-term-preserved : goal.loop-term-preserved
loop-term-preserved c = record {
  lists = lists-pushed list_at c.args.lists.now.blocks.now.index.now.collection c.args.terms.now c.loop-term.term-index c.loop-term.cursors.items c.push_reserved.new.self.items c.cursor.result
      c.loop-term.invariant.lists c.push_reserved.ensures.items c.cursor.ensures.list c.loop-term-test.true;
  start = starts-pushed place_at c.loop-term.cursors.items c.push_reserved.new.self.items c.cursor.result c.loop-term.invariant.start c.push_reserved.ensures.items c.cursor.ensures.start;
  count = omega (arith, ap length c.push_reserved.ensures.items, length-append c.loop-term.cursors.items (c.cursor.result ∷ []), c.loop-term.invariant.count);
  room = omega (arith, c.push_reserved.ensures.capacity, c.loop-term.invariant.room);
}
