use Rattle.std.proofs.Common.{refl, sym, ◌∙◌, ap, ◌+◌, arith}
use Rattle.std.specs.Prelude.{option_map}
use Rattle.std.specs.List.{slice_get}
use Rattle.collection_model.specs.Collection.{freqs_of}
use Rattle.pefidx_c.proofs.Putting.{posting-more}
use Rattle.pefidx_c.proofs.asking.take_postings.Goals as goal

pub loop-count-preserved : goal.loop-count-preserved
loop-count-preserved g c =
    let so_far = c.loop-count.invariant in
    let list = g.C.DocCursor.list c.args.cursor.now in
    record {
      list = c.advance.ensures.list ∙ c.freq-freq.ensures.list ∙ so_far.list;
      place = omega (arith, c.advance.ensures.place, c.freq-freq.ensures.place, so_far.place);
      given = posting-more c.args.room.now c.loop-count.room _ list (g.C.DocCursor.place c.args.cursor.now) (g.C.DocCursor.place c.loop-count.cursor)
          c.loop-count.count (c.loop-count.count + 1) c.in-Some.doc c.freq-freq.result refl (omega (arith, c.loop-count-test.true, c.loop-count.auto.count-end)) so_far.place so_far.given
          (ap (λ l. option_map (λ p. p.doc) (slice_get l (g.C.DocCursor.place c.loop-count.cursor))) (sym so_far.list) ∙ sym c.doc.ensures ∙ c.in-Some.is)
          (ap (λ l. slice_get (freqs_of l) (g.C.DocCursor.place c.loop-count.cursor)) (sym so_far.list) ∙ c.freq-freq.ensures.value)
          refl;
    }
