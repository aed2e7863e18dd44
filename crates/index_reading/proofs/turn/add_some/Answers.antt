use Rattle.std.proofs.Common.{◌≡◌, ◌+◌, ◌++◌, [], ap, ◌∙◌, arith}
use Rattle.std.specs.Prelude.{slice_range}
use Rattle.collection_model.specs.Collection.{docs_of, freqs_of}
use Rattle.collection_model.proofs.Lists.{docs_of-length}
use Rattle.segments.specs.Joined.{shifted}
use Rattle.index_reading.proofs.InTurn.{fits-given, next-doc, next-freq, none-added, slice-none, some-given}
use Rattle.index_reading.proofs.turn.add_some.Goals as goal

pub overflow_add-first : goal.overflow_add-first
overflow_add-first g c =
    let list = g.C.DocCursor.list c.args.cursor.now in
    let place = g.C.DocCursor.place c.args.cursor.now in
    let fits = fits-given c.args.first list place c.postings_below-count.result c.loop-j.j c.postings_below-count.new.docs (g.met.C.DocCursor.well_formed c.args.cursor.now).well_formed c.requires.few c.postings_below-count.ensures.docs c.loop-j-test.true in
    omega (arith, fits.behind)

pub loop-j-init : goal.loop-j-init
loop-j-init g c =
    let list = g.C.DocCursor.list c.args.cursor.now in
    let place = g.C.DocCursor.place c.args.cursor.now in
    (none-added c.args.first (slice_range list place (place + 0)) c.args.docs.now.items [] (slice-none list place)).docs_are

pub loop-j-preserved : goal.loop-j-preserved
loop-j-preserved g c =
    let given = c.postings_below-count.ensures in
    next-doc c.args.first (g.C.DocCursor.list c.args.cursor.now) (g.C.DocCursor.place c.args.cursor.now) c.loop-j.j _ _ _ _ (omega (arith, c.loop-j-test.true, given.docs.within, docs_of-length (g.C.DocCursor.list c.args.cursor.now))) c.loop-j.invariant
    c.in_ok-push.ensures.items (ap (λ n. c.args.first + n) (given.docs.same c.loop-j.j c.loop-j-test.true))

pub loop-k-init : goal.loop-k-init
loop-k-init g c =
    let list = g.C.DocCursor.list c.args.cursor.now in
    let place = g.C.DocCursor.place c.args.cursor.now in
    (none-added c.args.first (slice_range list place (place + 0)) [] c.args.freqs.now.items (slice-none list place)).freqs_are

pub loop-k-preserved : goal.loop-k-preserved
loop-k-preserved g c =
    let given = c.postings_below-count.ensures in
    next-freq (g.C.DocCursor.list c.args.cursor.now) (g.C.DocCursor.place c.args.cursor.now) c.loop-k.k _ _ _ _ (omega (arith, c.loop-k-test.true, given.docs.within, docs_of-length (g.C.DocCursor.list c.args.cursor.now))) c.loop-k.invariant
    c.in_ok-push-2.ensures.items (given.freqs c.loop-k.k c.loop-k-test.true)

pub returns-clause-on : goal.returns-clause-on
returns-clause-on g c =
    let given = c.postings_below-count.ensures in
    let some = some-given (g.C.DocCursor.list c.args.cursor.now) (g.C.DocCursor.place c.args.cursor.now) c.postings_below-count.result c.postings_below-count.new.docs (g.met.C.DocCursor.well_formed c.args.cursor.now).well_formed given.docs c.requires.left
    (omega (arith, c.requires.some_room, given.docs_room)) in
    omega (arith, some, given.place)

pub returns-clause-added : goal.returns-clause-added
returns-clause-added g c =
    let list = g.C.DocCursor.list c.args.cursor.now in
    let place = g.C.DocCursor.place c.args.cursor.now in
    let docs_end : g.C.DocCursor.place c.args.cursor.now + c.loop-j.j ≡ g.C.DocCursor.place c.postings_below-count.new.self = omega (arith, c.loop-j-test.false, c.loop-j.auto.j-end, c.postings_below-count.ensures.place) in
    let freqs_end : g.C.DocCursor.place c.args.cursor.now + c.loop-k.k ≡ g.C.DocCursor.place c.postings_below-count.new.self = omega (arith, c.loop-k-test.false, c.loop-k.auto.k-end, c.postings_below-count.ensures.place) in
    record {
      docs_are = c.loop-j.invariant ∙ ap (λ n. c.args.docs.now.items ++ docs_of (shifted c.args.first (slice_range list place n))) docs_end;
      freqs_are = c.loop-k.invariant ∙ ap (λ n. c.args.freqs.now.items ++ freqs_of (slice_range list place n)) freqs_end;
    }
