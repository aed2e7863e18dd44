use Rattle.std.proofs.Common.{◌≡◌, sym, ap, ◌∙◌, ℕ, ◌*◌, Some}
use Rattle.scan_plans.specs.Scan.{doc_at}
use Rattle.topk_pruning.proofs.Cursors.{same-doc, adds-there}
use Rattle.topk_pruning.proofs.probe.probe.Goals as goal

pub returns-then-eq-clause-value : goal.returns-then-eq-clause-value
returns-then-eq-clause-value g c =
    let now = c.doc_from.new.cursor in
    let at : doc_at (g.C.DocCursor.list now) (g.C.DocCursor.place now) ≡ Some c.args.doc = sym c.doc_from.ensures.doc ∙ same-doc c.doc_from.result c.args.doc c.if-eq.ensures in
    ap (λ (n : ℕ). n * c.from-then-eq.result) c.from.ensures ∙ ap (λ (n : ℕ). c.args.weight * n) c.from-then-eq.ensures
    ∙ adds-there c.cursors_tell.ensures.at (g.C.DocCursor.list now) (g.C.DocCursor.list c.args.cursor.now) c.args.doc (g.C.DocCursor.place now) c.args.weight c.freq.result
    (g.met.C.DocCursor.well_formed now) c.doc_from.ensures.list c.doc_from.ensures.stand at c.freq.ensures.value
