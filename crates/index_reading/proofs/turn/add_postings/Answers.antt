use Rattle.std.proofs.Common.{refl, sym, ap, subst, ◌∙◌, length, take, arith}
use Rattle.std.specs.Prelude.{slice_range}
use Rattle.std.proofs.lemmas.List.{take_all}
use Rattle.segments.specs.Joined.{most_joined, EndsBelow}
use Rattle.segments.specs.JoinedCursor.{part_of}
use Rattle.index_reading.specs.InTurn.{AreAdded}
use Rattle.index_reading.proofs.InTurn.{none-added, place-added}
use Rattle.index_reading.proofs.ReadBack.{place-within, place-past}
use Rattle.index_reading.proofs.turn.add_postings.Goals as goal

pub loop-given_docs-init : goal.loop-given_docs-init
loop-given_docs-init g c = record {
  list = refl;
  added = none-added c.args.first (take (g.C.DocCursor.place c.args.cursor.now) (g.C.DocCursor.list c.args.cursor.now)) _ _ (ap (λ k. take k (g.C.DocCursor.list c.args.cursor.now)) c.requires.start);
}

pub add_some-requires-clause-left : goal.add_some-requires-clause-left
add_some-requires-clause-left g c =
    place-within (g.C.DocCursor.list c.loop-given_docs.cursor) (g.C.DocCursor.place c.loop-given_docs.cursor) c.doc.result c.doc.ensures (sym c.is_some.ensures ∙ c.loop-given_docs-test.true)

pub add_some-requires-clause-few : goal.add_some-requires-clause-few
add_some-requires-clause-few g c = subst (λ l. EndsBelow (part_of c.args.first l) most_joined) (sym c.loop-given_docs.invariant.list) c.requires.few

pub loop-given_docs-preserved : goal.loop-given_docs-preserved
loop-given_docs-preserved g c =
    let so_far = c.loop-given_docs.invariant in
    let some = c.in_ok-add_some.ensures in
    let was = g.C.DocCursor.place c.loop-given_docs.cursor in
    let now = g.C.DocCursor.place c.add_some.new.cursor in
    record {
      list = c.add_some.ensures.list ∙ so_far.list;
      added = place-added c.args.first (g.C.DocCursor.list c.args.cursor.now) was now _ _ _ _ _ _ (omega (arith, some.on)) so_far.added
          (subst (λ l. AreAdded c.args.first (slice_range l was now) c.loop-given_docs.docs.items c.loop-given_docs.freqs.items c.add_some.new.docs.items c.add_some.new.freqs.items) so_far.list some.added);
    }

pub returns : goal.returns
returns g c =
    let so_far = c.loop-given_docs.invariant in
    let past = place-past (g.C.DocCursor.list c.loop-given_docs.cursor) (g.C.DocCursor.place c.loop-given_docs.cursor) c.doc.result c.doc.ensures (sym c.is_some.ensures ∙ c.loop-given_docs-test.false) in
    subst (λ l. AreAdded c.args.first l c.args.docs.now.items c.args.freqs.now.items c.loop-given_docs.docs.items c.loop-given_docs.freqs.items)
    (take_all (g.C.DocCursor.place c.loop-given_docs.cursor) (g.C.DocCursor.list c.args.cursor.now) (omega (arith, past, ap length so_far.list))) so_far.added
