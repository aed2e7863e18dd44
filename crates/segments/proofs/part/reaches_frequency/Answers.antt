use Rattle.std.proofs.Common.{◌<◌, ◌≤◌, sym, ap, ◌∙◌, length, arith}
use Rattle.std.specs.Option.{is_some}
use Rattle.segments.proofs.Shifts.{some-left, none-left}
use Rattle.segments.proofs.part.reaches_frequency.Goals as goal

pub returns-clause-there : goal.returns-clause-there
returns-clause-there g c = λ there.
    let new = c.next_frequent.new.self in
    let left : g.C.DocCursor.place new < length (g.C.DocCursor.list new) = some-left (g.C.DocCursor.list new) (g.C.DocCursor.place new) (ap is_some (sym c.doc.ensures) ∙ sym c.is_some.ensures ∙ there) in
    omega (arith, left, ap length c.next_frequent.ensures.list)

pub returns-clause-ended : goal.returns-clause-ended
returns-clause-ended g c = λ ended.
    let new = c.next_frequent.new.self in
    let none : length (g.C.DocCursor.list new) ≤ g.C.DocCursor.place new = none-left (g.C.DocCursor.list new) (g.C.DocCursor.place new) (ap is_some (sym c.doc.ensures) ∙ sym c.is_some.ensures ∙ ended) in
    omega (arith, none, (g.met.C.DocCursor.well_formed new).within, ap length c.next_frequent.ensures.list)
