use Rattle.std.proofs.Common.{ℕ, ◌+◌, ◌<◌, ◌≤◌, sym, ap, ◌∙◌, length, List, get_or, arith}
use Rattle.std.specs.Option.{is_some}
use Rattle.segments.specs.Joined.{ListPart}
use Rattle.segments.specs.JoinedCursor.{parts_of, places_of}
use Rattle.segments.proofs.Shifts.{none-left}
use Rattle.segments.proofs.Joins.{place-kept, part-read, place-read, parts-many}
use Rattle.segments.proofs.parts.settled.Goals as goal

pub loop-i-preserved : goal.loop-i-preserved
loop-i-preserved g c =
    let cursors = c.args.parts.now in
    let i : ℕ = c.loop-i.i in
    let item = c.index-parts-i.result in
    let part = get_or cursors i item in
    let within : i < length cursors = omega arith in
    let parts : List ListPart = parts_of g.C.DocCursor.list cursors in
    let places : List ℕ = places_of g.C.DocCursor.place cursors in
    let none : length (g.C.DocCursor.list part.1) ≤ g.C.DocCursor.place part.1 = none-left (g.C.DocCursor.list part.1) (g.C.DocCursor.place part.1) (ap is_some (sym c.doc.ensures) ∙ sym c.is_some.ensures ∙ c.if-is_some.false) in
    let here = part-read g.C.DocCursor.list cursors i item within in
    let kept = place-kept parts places i (omega (arith, parts-many g.C.DocCursor.list cursors))
    (omega (arith, none, (g.met.C.DocCursor.well_formed part.1).within, ap (λ p. length p.list) here, place-read g.C.DocCursor.place cursors i item within))
    (c.requires.unread (i + 1) (omega (arith, c.loop-i.auto.i))) in
    record { place = kept ∙ c.loop-i.invariant.place }
