use Rattle.std.proofs.Common.{◌≡◌, ℕ, ◌+◌, ◌-◌, ◌≤◌, sym, ap, ◌∙◌, List, length, get_or, arith}
use Rattle.std.specs.Option.{is_some}
use Rattle.collection_model.specs.Collection.{freqs_of}
use Rattle.segments.specs.Joined.{joined_list}
use Rattle.segments.specs.JoinedCursor.{parts_of, places_of, joined_place}
use Rattle.segments.proofs.Shifts.{left-in, ended-in}
use Rattle.segments.proofs.Joins.{is-moved, moved-stands, moved-place, moved-next, is-behind, parts-many}
use Rattle.segments.proofs.Blocks.{HasGiven, has-given, given-here, given-end, AreCopied, put_behind, freqs-given, room-left, room-kept}
use Rattle.segments.proofs.parts.postings_from.Given as given
use Rattle.segments.proofs.parts.postings_from.Goals as goal
use Rattle.segments.proofs.parts.postings_from.Goals.{After-read_postings-count}

-- what a part gave
gave : (g : given.Over) (c : After-read_postings-count g) → HasGiven g.C.DocCursor.list g.C.DocCursor.place (parts_of g.C.DocCursor.list c.args.parts.now) c.loop-i.parts c.loop-i.i (get_or c.loop-i.parts c.loop-i.i c.index-parts-i.result) c.read_postings-count.new.part
    (joined_place (parts_of g.C.DocCursor.list c.args.parts.now) (places_of g.C.DocCursor.place c.args.parts.now) c.args.at) c.args.end c.loop-i.count c.read_postings-count.result c.loop-i.docs c.read_postings-count.new.docs
gave g c =
    let so_far = c.loop-i.invariant in
    let read = c.read_postings-count.ensures in
    has-given g.C.DocCursor.list g.C.DocCursor.place (parts_of g.C.DocCursor.list c.args.parts.now) c.loop-i.parts c.loop-i.i (get_or c.loop-i.parts c.loop-i.i c.index-parts-i.result) c.read_postings-count.new.part
    (joined_place (parts_of g.C.DocCursor.list c.args.parts.now) (places_of g.C.DocCursor.place c.args.parts.now) c.args.at) c.args.end c.loop-i.count c.read_postings-count.result c.loop-i.docs c.read_postings-count.new.docs
    (is-moved g.C.DocCursor.list g.C.DocCursor.place (parts_of g.C.DocCursor.list c.args.parts.now) c.loop-i.parts c.loop-i.i c.index-parts-i.result c.read_postings-count.new.part (omega arith) so_far.parts read.first read.list so_far.unread)
    so_far.place read.place so_far.room so_far.docs read.docs read.docs_room

-- and of their frequencies
record HasFreqs (freqs rest : List ℕ) (numbers : List ℕ) (from count n : ℕ) : Type 0 where
  whole : length (put_behind count freqs rest) ≡ length freqs
  copied : AreCopied numbers from (put_behind count freqs rest) (count + n)

freqs-gave : (g : given.Over) (c : After-read_postings-count g) → HasFreqs c.loop-i.freqs c.read_postings-count.new.freqs (freqs_of (joined_list (parts_of g.C.DocCursor.list c.args.parts.now))) (joined_place (parts_of g.C.DocCursor.list c.args.parts.now) (places_of g.C.DocCursor.place c.args.parts.now) c.args.at) c.loop-i.count c.read_postings-count.result
freqs-gave g c =
    let read = c.read_postings-count.ensures in
    let r = gave g c in
    let within : c.loop-i.count ≤ length c.loop-i.freqs = omega (arith, r.room, c.requires.room, c.loop-i.auto.docs, c.loop-i.auto.freqs) in
    let kept : length c.read_postings-count.new.freqs ≡ length c.loop-i.freqs - c.loop-i.count = room-left c.loop-i.count c.loop-i.freqs c.read_postings-count.new.freqs within read.freqs_room in
    record {
      whole = room-kept c.loop-i.count c.loop-i.freqs c.read_postings-count.new.freqs within kept;
      copied = freqs-given c.loop-i.freqs c.read_postings-count.new.freqs r within (omega (arith, r.next.room, r.kept, kept, c.requires.room, c.loop-i.auto.docs, c.loop-i.auto.freqs)) read.freqs c.loop-i.invariant.freqs;
    }

pub overflow_add-count : goal.overflow_add-count
overflow_add-count g c =
    let r = gave g (goal.at.overflow_add-count g c).After-read_postings-count in
    omega (arith, r.next.room, r.kept)

pub loop-i-preserved : goal.loop-i-preserved
loop-i-preserved g c =
    let r = gave g (goal.at.loop-i-preserved g c).After-read_postings-count in
    let ended = ended-in (g.C.DocCursor.list (get_or c.loop-i.parts c.loop-i.i c.index-parts-i.result).1) (g.C.DocCursor.list c.read_postings-count.new.part.1) (g.C.DocCursor.place c.read_postings-count.new.part.1) c.read_postings-count.ensures.list (g.met.C.DocCursor.well_formed c.read_postings-count.new.part.1).within (ap is_some (sym c.doc.ensures) ∙ sym c.is_some.ensures ∙ c.if-is_some.false) in
    record {
      parts = r.moved.same;
      unread = λ j lt. r.moved.unread j (omega arith);
      place = moved-next r.moved ended ∙ r.there;
      room = omega (arith, r.next.room, r.kept, r.whole);
      docs = r.all;
      freqs = (freqs-gave g (goal.at.loop-i-preserved g c).After-read_postings-count).copied;
    }

pub returns-then-is_some : goal.returns-then-is_some
returns-then-is_some g c =
    let r = gave g (goal.at.returns-then-is_some g c).After-read_postings-count in
    let there = left-in (g.C.DocCursor.list (get_or c.loop-i.parts c.loop-i.i c.index-parts-i.result).1) (g.C.DocCursor.list c.read_postings-count.new.part.1) (g.C.DocCursor.place c.read_postings-count.new.part.1) c.read_postings-count.ensures.list (ap is_some (sym c.doc.ensures) ∙ sym c.is_some.ensures ∙ c.if-is_some.true) in
    record {
      parts = r.moved.same;
      stands = moved-stands r.moved there;
      place = moved-place r.moved ∙ r.there;
      docs_room = r.whole ∙ c.loop-i.auto.docs;
      freqs_room = (freqs-gave g (goal.at.returns-then-is_some g c).After-read_postings-count).whole ∙ c.loop-i.auto.freqs;
      docs = given-here r there;
      freqs = (freqs-gave g (goal.at.returns-then-is_some g c).After-read_postings-count).copied.same;
    }

pub returns : goal.returns
returns g c =
    let so_far = c.loop-i.invariant in
    let behind = is-behind g.C.DocCursor.list g.C.DocCursor.place (parts_of g.C.DocCursor.list c.args.parts.now) c.loop-i.parts c.loop-i.i so_far.parts (omega (arith, parts-many g.C.DocCursor.list c.args.parts.now, c.requires.stands.within)) in
    record {
      parts = so_far.parts;
      stands = behind.stands;
      place = behind.there ∙ so_far.place;
      docs_room = c.loop-i.auto.docs;
      freqs_room = c.loop-i.auto.freqs;
      docs = given-end (parts_of g.C.DocCursor.list c.args.parts.now) (joined_place (parts_of g.C.DocCursor.list c.args.parts.now) (places_of g.C.DocCursor.place c.args.parts.now) c.args.at) c.args.end c.loop-i.count c.loop-i.docs (omega (arith, behind.at_end, so_far.place)) so_far.room so_far.docs;
      freqs = so_far.freqs.same;
    }
