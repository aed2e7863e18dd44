use Rattle.std.proofs.Common.{sym, ap, ◌∙◌, ◌+◌, Bool, ◌&&◌, arith}
use Rattle.std.specs.List.{list_all}
use Rattle.std.proofs.lemmas.List.{take_all}
use Rattle.std.proofs.lemmas.List.Folds.{list_all-map}
use Rattle.scan_plans.specs.Matches.{has_doc}
use Rattle.scan_plans.specs.Window.{is_marked}
use Rattle.scan_plans.proofs.docs.keep_in_all.Goals as goal

pub returns-clause-kept : goal.returns-clause-kept
returns-clause-kept g c k lt =
    let cursors = c.args.cursors.now in
    let test = λ (x : g.row.C.Denot). has_doc (c.args.first + k) (g.C.DocCursor.list x) in
    c.loop-cursor.invariant.kept k lt
    ∙ ap (λ (b : Bool). is_marked c.args.marks.now k && b) (ap (list_all test) (take_all c.loop-cursor.cursor-index cursors (omega arith)) ∙ sym (list_all-map (has_doc (c.args.first + k)) g.C.DocCursor.list cursors))
