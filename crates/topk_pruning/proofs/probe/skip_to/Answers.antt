use Rattle.std.proofs.Common.{◌≡◌, ◌+◌, arith}
use Rattle.topk_pruning.proofs.Cursors.{one-later}
use Rattle.topk_pruning.proofs.probe.skip_to.Goals as goal

pub returns-then-from-doc-eq1-clause-stand : goal.returns-then-from-doc-eq1-clause-stand
returns-then-from-doc-eq1-clause-stand g c =
    let next : c.args.doc + 1 ≡ c.args.from = omega (arith, c.if-from-doc-eq1.true, c.requires.before) in
    one-later g.C.DocCursor.list g.C.DocCursor.place c.cursors_stand.ensures.one_later c.args.doc c.args.from c.args.cursor.now c.advance.new.self
    (g.met.C.DocCursor.well_formed c.args.cursor.now) c.requires.at next c.advance.ensures.list c.advance.ensures.place
