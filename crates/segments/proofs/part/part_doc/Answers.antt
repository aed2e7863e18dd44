use Rattle.std.proofs.Common.{◌+◌, sym, ap, ◌∙◌, arith}
use Rattle.std.specs.Option.{option_map}
use Rattle.segments.proofs.Shifts.{shifted-at, shifted-few}
use Rattle.segments.proofs.part.part_doc.Goals as goal

pub overflow_add-result : goal.overflow_add-result
overflow_add-result g c =
    let part = c.args.part.now in
    omega (arith, shifted-few part.0 (g.C.DocCursor.list part.1) (g.C.DocCursor.place part.1) c.in_ok-doc.field-0 c.requires.few (sym c.doc.ensures ∙ c.in_ok-doc.was))

pub returns : goal.returns
returns g c =
    let part = c.args.part.now in
    sym (shifted-at part.0 (g.C.DocCursor.list part.1) (g.C.DocCursor.place part.1) ∙ ap (option_map (λ d. part.0 + d)) (sym c.doc.ensures ∙ c.in_ok-doc.was))
