use Rattle.std.proofs.Common.{◌+◌, ◌∙◌, get_or, arith}
use Rattle.segments.specs.Joined.{joined_list}
use Rattle.segments.specs.JoinedCursor.{parts_of, places_of, start_of, joined_place}
use Rattle.segments.proofs.Joins.{IsMoved, is-moved, moved-stands, moved-place, passed-next, passed-here, passed-end, is-behind, parts-many}
use Rattle.segments.proofs.parts.seek.Given as given
use Rattle.segments.proofs.parts.seek.Goals as goal
use Rattle.segments.proofs.parts.seek.Goals.{After-reaches}

-- the cursor of a part went on in its list
went : (g : given.Over) (c : After-reaches g) → IsMoved g.C.DocCursor.list g.C.DocCursor.place (parts_of g.C.DocCursor.list c.args.parts.now) c.loop-i.parts c.loop-i.i (get_or c.loop-i.parts c.loop-i.i c.index-parts-i.result) c.reaches.new.part
went g c =
    is-moved g.C.DocCursor.list g.C.DocCursor.place (parts_of g.C.DocCursor.list c.args.parts.now) c.loop-i.parts c.loop-i.i c.index-parts-i.result c.reaches.new.part (omega arith) c.loop-i.invariant.parts c.reaches.ensures.first c.reaches.ensures.list c.loop-i.invariant.unread

pub loop-i-preserved : goal.loop-i-preserved
loop-i-preserved g c =
    let moved = went g (goal.at.loop-i-preserved g c).After-reaches in
    record {
      parts = moved.same;
      unread = λ j lt. moved.unread j (omega arith);
      passed = passed-next (joined_place (parts_of g.C.DocCursor.list c.args.parts.now) (places_of g.C.DocCursor.place c.args.parts.now) c.args.at) moved c.loop-i.invariant.passed c.reaches.ensures.place (c.reaches.ensures.ended c.if-reaches.false);
    }

pub returns-then-reaches : goal.returns-then-reaches
returns-then-reaches g c =
    let moved = went g (goal.at.returns-then-reaches g c).After-reaches in
    let there = c.reaches.ensures.there c.if-reaches.true in
    record {
      parts = moved.same;
      stands = moved-stands moved there;
      place = moved-place moved ∙ c.next_geq_is_first.ensures.one (joined_list (parts_of g.C.DocCursor.list c.args.parts.now)) (joined_place (parts_of g.C.DocCursor.list c.args.parts.now) (places_of g.C.DocCursor.place c.args.parts.now) c.args.at) c.args.d (start_of (parts_of g.C.DocCursor.list c.args.parts.now) c.loop-i.i + g.C.DocCursor.place c.reaches.new.part.1) (passed-here (joined_place (parts_of g.C.DocCursor.list c.args.parts.now) (places_of g.C.DocCursor.place c.args.parts.now) c.args.at) moved c.loop-i.invariant.passed c.reaches.ensures.place there);
    }

pub returns : goal.returns
returns g c =
    let behind = is-behind g.C.DocCursor.list g.C.DocCursor.place (parts_of g.C.DocCursor.list c.args.parts.now) c.loop-i.parts c.loop-i.i c.loop-i.invariant.parts (omega (arith, parts-many g.C.DocCursor.list c.args.parts.now, c.requires.stands.within)) in
    record {
      parts = c.loop-i.invariant.parts;
      stands = behind.stands;
      place = behind.there ∙ c.next_geq_is_first.ensures.one (joined_list (parts_of g.C.DocCursor.list c.args.parts.now)) (joined_place (parts_of g.C.DocCursor.list c.args.parts.now) (places_of g.C.DocCursor.place c.args.parts.now) c.args.at) c.args.d (joined_place (parts_of g.C.DocCursor.list c.args.parts.now) (places_of g.C.DocCursor.place c.loop-i.parts) c.loop-i.i) (passed-end (parts_of g.C.DocCursor.list c.args.parts.now) (joined_place (parts_of g.C.DocCursor.list c.args.parts.now) (places_of g.C.DocCursor.place c.args.parts.now) c.args.at) c.args.d (joined_place (parts_of g.C.DocCursor.list c.args.parts.now) (places_of g.C.DocCursor.place c.loop-i.parts) c.loop-i.i) behind.at_end c.loop-i.invariant.passed);
    }
