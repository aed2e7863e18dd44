use Rattle.std.proofs.Common.{sym, ap, ◌∙◌, get_or, arith}
use Rattle.std.specs.Option.{is_some}
use Rattle.segments.specs.JoinedCursor.{parts_of, places_of, joined_place}
use Rattle.segments.proofs.Shifts.{left-in, ended-in}
use Rattle.segments.proofs.Joins.{is-moved, moved-stands, moved-place, moved-next, is-behind, parts-many}
use Rattle.segments.proofs.Blocks.{HasGiven, has-given, given-here, given-end}
use Rattle.segments.proofs.parts.docs_from.Given as given
use Rattle.segments.proofs.parts.docs_from.Goals as goal
use Rattle.segments.proofs.parts.docs_from.Goals.{After-read_docs-count}

-- what a part gave
gave : (g : given.Over) (c : After-read_docs-count g) → HasGiven g.C.DocCursor.list g.C.DocCursor.place (parts_of g.C.DocCursor.list c.args.parts.now) c.loop-i.parts c.loop-i.i (get_or c.loop-i.parts c.loop-i.i c.index-parts-i.result) c.read_docs-count.new.part
    (joined_place (parts_of g.C.DocCursor.list c.args.parts.now) (places_of g.C.DocCursor.place c.args.parts.now) c.args.at) c.args.end c.loop-i.count c.read_docs-count.result c.loop-i.docs c.read_docs-count.new.docs
gave g c =
    let so_far = c.loop-i.invariant in
    let read = c.read_docs-count.ensures in
    has-given g.C.DocCursor.list g.C.DocCursor.place (parts_of g.C.DocCursor.list c.args.parts.now) c.loop-i.parts c.loop-i.i (get_or c.loop-i.parts c.loop-i.i c.index-parts-i.result) c.read_docs-count.new.part
    (joined_place (parts_of g.C.DocCursor.list c.args.parts.now) (places_of g.C.DocCursor.place c.args.parts.now) c.args.at) c.args.end c.loop-i.count c.read_docs-count.result c.loop-i.docs c.read_docs-count.new.docs
    (is-moved g.C.DocCursor.list g.C.DocCursor.place (parts_of g.C.DocCursor.list c.args.parts.now) c.loop-i.parts c.loop-i.i c.index-parts-i.result c.read_docs-count.new.part (omega arith) so_far.parts read.first read.list so_far.unread)
    so_far.place read.place so_far.room so_far.docs read.docs read.room

pub overflow_add-count : goal.overflow_add-count
overflow_add-count g c =
    let r = gave g (goal.at.overflow_add-count g c).After-read_docs-count in
    omega (arith, r.next.room, r.kept)

pub loop-i-preserved : goal.loop-i-preserved
loop-i-preserved g c =
    let r = gave g (goal.at.loop-i-preserved g c).After-read_docs-count in
    let ended = ended-in (g.C.DocCursor.list (get_or c.loop-i.parts c.loop-i.i c.index-parts-i.result).1) (g.C.DocCursor.list c.read_docs-count.new.part.1) (g.C.DocCursor.place c.read_docs-count.new.part.1) c.read_docs-count.ensures.list (g.met.C.DocCursor.well_formed c.read_docs-count.new.part.1).within (ap is_some (sym c.doc.ensures) ∙ sym c.is_some.ensures ∙ c.if-is_some.false) in
    record {
      parts = r.moved.same;
      unread = λ j lt. r.moved.unread j (omega arith);
      place = moved-next r.moved ended ∙ r.there;
      room = omega (arith, r.next.room, r.kept, r.whole);
      docs = r.all;
    }

pub returns-then-is_some : goal.returns-then-is_some
returns-then-is_some g c =
    let r = gave g (goal.at.returns-then-is_some g c).After-read_docs-count in
    let there = left-in (g.C.DocCursor.list (get_or c.loop-i.parts c.loop-i.i c.index-parts-i.result).1) (g.C.DocCursor.list c.read_docs-count.new.part.1) (g.C.DocCursor.place c.read_docs-count.new.part.1) c.read_docs-count.ensures.list (ap is_some (sym c.doc.ensures) ∙ sym c.is_some.ensures ∙ c.if-is_some.true) in
    record {
      parts = r.moved.same;
      stands = moved-stands r.moved there;
      place = moved-place r.moved ∙ r.there;
      room = r.whole ∙ c.loop-i.auto.docs;
      docs = given-here r there;
    }

pub returns : goal.returns
returns g c =
    let so_far = c.loop-i.invariant in
    let behind = is-behind g.C.DocCursor.list g.C.DocCursor.place (parts_of g.C.DocCursor.list c.args.parts.now) c.loop-i.parts c.loop-i.i so_far.parts (omega (arith, parts-many g.C.DocCursor.list c.args.parts.now, c.requires.stands.within)) in
    record {
      parts = so_far.parts;
      stands = behind.stands;
      place = behind.there ∙ so_far.place;
      room = c.loop-i.auto.docs;
      docs = given-end (parts_of g.C.DocCursor.list c.args.parts.now) (joined_place (parts_of g.C.DocCursor.list c.args.parts.now) (places_of g.C.DocCursor.place c.args.parts.now) c.args.at) c.args.end c.loop-i.count c.loop-i.docs (omega (arith, behind.at_end, so_far.place)) so_far.room so_far.docs;
    }
