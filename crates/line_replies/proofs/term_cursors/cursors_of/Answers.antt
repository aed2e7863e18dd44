use Rattle.scan_plans.proofs.AskedLists.{lists-pushed, starts-pushed}
use Rattle.line_replies.proofs.term_cursors.cursors_of.Goals as goal

pub loop-term-preserved : goal.loop-term-preserved
loop-term-preserved g c = record {
  lists = lists-pushed g.L.Cursor.DocCursor.list (g.L.TermLists.collection c.args.lists.now) c.args.terms.now c.loop-term.term-index c.loop-term.cursors.items c.push.new.self.items c.put_cursor.new.cursor
      c.loop-term.invariant.lists c.in_ok-push.ensures.items c.in_ok-put_cursor.ensures.list c.loop-term-test.true;
  start = starts-pushed g.L.Cursor.DocCursor.place c.loop-term.cursors.items c.push.new.self.items c.put_cursor.new.cursor c.loop-term.invariant.start c.in_ok-push.ensures.items c.in_ok-put_cursor.ensures.start;
}
