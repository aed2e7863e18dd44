use Rattle.std.proofs.Common.{sym, ap, ◌∙◌, ◌+◌}
use Rattle.index_reading.proofs.ReadBack.{reading-more, reading-ends}
use Rattle.index_reading.proofs.lists.read_list.Goals as goal

pub loop-doc-preserved : goal.loop-doc-preserved
loop-doc-preserved g c =
    let so_far = c.loop-doc.invariant in (
      c.advance.ensures.list ∙ c.freq.ensures.list ∙ so_far.0,
      reading-more (g.C.DocCursor.list c.args.cursor.now) (g.C.DocCursor.list c.loop-doc.cursor) _ _ _ _ _ _ c.in-Some.doc c.freq.result so_far.1 so_far.0
          (c.advance.ensures.place ∙ ap (λ k. k + 1) c.freq.ensures.place) (sym c.in-Some.ensures) c.freq.ensures.value c.in_ok-push.ensures.items c.in_ok-push-2.ensures.items,
    )

pub returns-clause-list : goal.returns-clause-list
returns-clause-list g c =
    let so_far = c.loop-doc.invariant in
    reading-ends (g.C.DocCursor.list c.args.cursor.now) (g.C.DocCursor.list c.loop-doc.cursor) (g.C.DocCursor.place c.loop-doc.cursor) _ _ so_far.1 so_far.0 (sym c.doc.ensures ∙ c.in_default.is)
