use Rattle.scan_plans.proofs.AskedLists.{lists-pushed, starts-pushed}
use Rattle.pefidx_c.proofs.Refusals.{asked-below, asked-there}
use Rattle.pefidx_c.proofs.cursors.cursors_of.Goals as goal

pub list_cursor-requires : goal.list_cursor-requires
list_cursor-requires g c =
    asked-there (g.S.ListSource.collection c.args.source.now) c.args.terms.now c.requires.good c.loop-term.term-index 0 c.loop-term-test.true

pub loop-term-preserved : goal.loop-term-preserved
loop-term-preserved g c = record {
  lists = lists-pushed g.S.Cursor.DocCursor.list (g.S.ListSource.collection c.args.source.now) c.args.terms.now c.loop-term.term-index c.loop-term.cursors.items c.push.new.self.items c.in_ok-cursor.cursor
      c.loop-term.invariant.lists c.in_ok-push.ensures.items c.in_ok-cursor.ensures.list c.loop-term-test.true;
  start = starts-pushed g.S.Cursor.DocCursor.place c.loop-term.cursors.items c.push.new.self.items c.in_ok-cursor.cursor c.loop-term.invariant.start c.in_ok-push.ensures.items c.in_ok-cursor.ensures.start;
}

pub returns-in_err-cursors-clause-below : goal.returns-in_err-cursors-clause-below
returns-in_err-cursors-clause-below g c = asked-below (g.S.ListSource.collection c.args.source.now) c.args.terms.now c.requires.in_range c.requires.good

pub returns-in_err-cursor-clause-below : goal.returns-in_err-cursor-clause-below
returns-in_err-cursor-clause-below g c = asked-below (g.S.ListSource.collection c.args.source.now) c.args.terms.now c.requires.in_range c.requires.good

pub returns-in_err-push-clause-below : goal.returns-in_err-push-clause-below
returns-in_err-push-clause-below g c = asked-below (g.S.ListSource.collection c.args.source.now) c.args.terms.now c.requires.in_range c.requires.good

pub returns-clause-below : goal.returns-clause-below
returns-clause-below g c = asked-below (g.S.ListSource.collection c.args.source.now) c.args.terms.now c.requires.in_range c.requires.good
