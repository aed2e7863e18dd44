use Rattle.std.proofs.Common.{◌+◌, ◌∙◌, get_or, arith}
use Rattle.segments.specs.Joined.{joined_list}
use Rattle.segments.specs.JoinedCursor.{parts_of, places_of, start_of, joined_place}
use Rattle.segments.proofs.Joins.{IsMoved, is-moved, moved-stands, moved-place, is-behind, parts-many}
use Rattle.segments.proofs.Frequencies.{rarer-next, rarer-here, rarer-end, next-one}
use Rattle.segments.proofs.parts.seek_frequency.Given as given
use Rattle.segments.proofs.parts.seek_frequency.Goals as goal
use Rattle.segments.proofs.parts.seek_frequency.Goals.{After-reaches_frequency}

-- the cursor of a part went on in its list
went : (g : given.Over) (c : After-reaches_frequency g) → IsMoved g.C.DocCursor.list g.C.DocCursor.place (parts_of g.C.DocCursor.list c.args.parts.now) c.loop-i.parts c.loop-i.i (get_or c.loop-i.parts c.loop-i.i c.index-parts-i.result) c.reaches_frequency.new.part
went g c =
    is-moved g.C.DocCursor.list g.C.DocCursor.place (parts_of g.C.DocCursor.list c.args.parts.now) c.loop-i.parts c.loop-i.i c.index-parts-i.result c.reaches_frequency.new.part (omega arith) c.loop-i.invariant.parts c.reaches_frequency.ensures.first c.reaches_frequency.ensures.list c.loop-i.invariant.unread

pub loop-i-preserved : goal.loop-i-preserved
loop-i-preserved g c =
    let moved = went g (goal.at.loop-i-preserved g c).After-reaches_frequency in
    record {
      parts = moved.same;
      unread = λ j lt. moved.unread j (omega arith);
      passed = rarer-next (joined_place (parts_of g.C.DocCursor.list c.args.parts.now) (places_of g.C.DocCursor.place c.args.parts.now) c.args.at) moved c.loop-i.invariant.passed (g.met.C.DocCursor.well_formed (get_or c.loop-i.parts c.loop-i.i c.index-parts-i.result).1).within c.reaches_frequency.ensures.place (c.reaches_frequency.ensures.ended c.if-reaches_frequency.false);
    }

pub returns-then-reaches_frequency : goal.returns-then-reaches_frequency
returns-then-reaches_frequency g c =
    let moved = went g (goal.at.returns-then-reaches_frequency g c).After-reaches_frequency in
    let there = c.reaches_frequency.ensures.there c.if-reaches_frequency.true in
    record {
      parts = moved.same;
      stands = moved-stands moved there;
      place = moved-place moved ∙ next-one (joined_list (parts_of g.C.DocCursor.list c.args.parts.now)) (joined_place (parts_of g.C.DocCursor.list c.args.parts.now) (places_of g.C.DocCursor.place c.args.parts.now) c.args.at) c.args.f (start_of (parts_of g.C.DocCursor.list c.args.parts.now) c.loop-i.i + g.C.DocCursor.place c.reaches_frequency.new.part.1) (rarer-here (joined_place (parts_of g.C.DocCursor.list c.args.parts.now) (places_of g.C.DocCursor.place c.args.parts.now) c.args.at) moved c.loop-i.invariant.passed (g.met.C.DocCursor.well_formed (get_or c.loop-i.parts c.loop-i.i c.index-parts-i.result).1).within c.reaches_frequency.ensures.place there);
    }

pub returns : goal.returns
returns g c =
    let behind = is-behind g.C.DocCursor.list g.C.DocCursor.place (parts_of g.C.DocCursor.list c.args.parts.now) c.loop-i.parts c.loop-i.i c.loop-i.invariant.parts (omega (arith, parts-many g.C.DocCursor.list c.args.parts.now, c.requires.stands.within)) in
    record {
      parts = c.loop-i.invariant.parts;
      stands = behind.stands;
      place = behind.there ∙ next-one (joined_list (parts_of g.C.DocCursor.list c.args.parts.now)) (joined_place (parts_of g.C.DocCursor.list c.args.parts.now) (places_of g.C.DocCursor.place c.args.parts.now) c.args.at) c.args.f (joined_place (parts_of g.C.DocCursor.list c.args.parts.now) (places_of g.C.DocCursor.place c.loop-i.parts) c.loop-i.i) (rarer-end (parts_of g.C.DocCursor.list c.args.parts.now) (joined_place (parts_of g.C.DocCursor.list c.args.parts.now) (places_of g.C.DocCursor.place c.args.parts.now) c.args.at) c.args.f (joined_place (parts_of g.C.DocCursor.list c.args.parts.now) (places_of g.C.DocCursor.place c.loop-i.parts) c.loop-i.i) behind.at_end c.loop-i.invariant.passed);
    }
