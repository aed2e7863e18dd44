use Rattle.std.proofs.Common.{◌≡◌, ℕ, ◌-◌, ◌<◌, ◌≤◌, sym, ap, ◌∙◌, subst, length, List, arith}
use Rattle.std.specs.Option.{is_some}
use Rattle.collection_model.specs.Collection.{Posting}
use Rattle.cursor_api.specs.NextGeq.{next_geq_place}
use Rattle.cursor_api.specs.Laws.{IsNextGeq}
use Rattle.segments.proofs.Shifts.{shifted-next, some-left, none-left}
use Rattle.segments.proofs.part.reaches.Goals as goal

pub returns-clause-place : goal.returns-clause-place
returns-clause-place g c =
    let part = c.args.part.now in
    let list : List Posting = g.C.DocCursor.list part.1 in
    let place : ℕ = g.C.DocCursor.place part.1 in
    let first = c.next_geq_is_first.ensures.first list place (c.args.d - part.0) (g.met.C.DocCursor.well_formed part.1).within in
    let moved : g.C.DocCursor.place c.next_geq.new.self ≡ next_geq_place list place (c.args.d - part.0) = c.next_geq.ensures.place ∙ ap (next_geq_place list place) c.saturating_sub.ensures in
    shifted-next part.0 list place c.args.d (g.C.DocCursor.place c.next_geq.new.self) (subst (λ (found : ℕ). IsNextGeq list place (c.args.d - part.0) found) (sym moved) first)

pub returns-clause-there : goal.returns-clause-there
returns-clause-there g c = λ there.
    let new = c.next_geq.new.self in
    let left : g.C.DocCursor.place new < length (g.C.DocCursor.list new) = some-left (g.C.DocCursor.list new) (g.C.DocCursor.place new) (ap is_some (sym c.doc.ensures) ∙ sym c.is_some.ensures ∙ there) in
    omega (arith, left, ap length c.next_geq.ensures.list)

pub returns-clause-ended : goal.returns-clause-ended
returns-clause-ended g c = λ ended.
    let new = c.next_geq.new.self in
    let none : length (g.C.DocCursor.list new) ≤ g.C.DocCursor.place new = none-left (g.C.DocCursor.list new) (g.C.DocCursor.place new) (ap is_some (sym c.doc.ensures) ∙ sym c.is_some.ensures ∙ ended) in
    omega (arith, none, (g.met.C.DocCursor.well_formed new).within, ap length c.next_geq.ensures.list)
