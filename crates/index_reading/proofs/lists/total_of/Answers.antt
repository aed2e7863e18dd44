use Rattle.std.proofs.Common.{sym, ap, subst, ◌∙◌, ◌+◌, length, arith}
use Rattle.index_reading.proofs.ReadBack.{AreSummed, summing-more, summing-ends, place-within, place-past}
use Rattle.index_reading.proofs.lists.total_of.Goals as goal

pub loop-cursor-preserved : goal.loop-cursor-preserved
loop-cursor-preserved g c =
    let so_far = c.loop-cursor.invariant in
    let within = place-within (g.C.DocCursor.list c.loop-cursor.cursor) (g.C.DocCursor.place c.loop-cursor.cursor) c.doc.result c.doc.ensures (sym c.is_some.ensures ∙ c.loop-cursor-test.true) in (
      c.advance.ensures.list ∙ c.freq.ensures.list ∙ so_far.0,
      subst (λ f. AreSummed (g.C.DocCursor.list c.args.cursor.now) (g.C.DocCursor.place c.advance.new.self) (c.loop-cursor.total + f)) (sym c.from-total.ensures)
          (summing-more (g.C.DocCursor.list c.args.cursor.now) (g.C.DocCursor.list c.loop-cursor.cursor) _ _ _ _ so_far.1 so_far.0
          (c.advance.ensures.place ∙ ap (λ k. k + 1) c.freq.ensures.place) (omega (arith, within, ap length so_far.0)) c.freq.ensures.value),
    )

pub returns : goal.returns
returns g c =
    let so_far = c.loop-cursor.invariant in
    let past = place-past (g.C.DocCursor.list c.loop-cursor.cursor) (g.C.DocCursor.place c.loop-cursor.cursor) c.doc.result c.doc.ensures (sym c.is_some.ensures ∙ c.loop-cursor-test.false) in
    summing-ends (g.C.DocCursor.list c.args.cursor.now) _ _ so_far.1 (omega (arith, past, ap length so_far.0))
