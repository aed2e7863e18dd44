use Rattle.std.proofs.Common.{◌≡◌, ℕ, ◌<◌, ap, ◌∙◌, length, List, arith}
use Rattle.collection_model.specs.Collection.{docs_of}
use Rattle.collection_model.proofs.Lists.{rising-length, docs_of-length}
use Rattle.segments.specs.Joined.{ListPart, joined_list}
use Rattle.segments.specs.JoinedCursor.{parts_of}
use Rattle.segments.specs.CursorPlaces.{part-within, start-past}
use Rattle.segments.proofs.Joins.{start-next, part-read, parts-many}
use Rattle.segments.proofs.parts.count_all.Goals as goal

pub overflow_add-count : goal.overflow_add-count
overflow_add-count g c =
    let cursors = c.args.parts.now in
    let i : ℕ = c.loop-part.part-index in
    let within : i < length cursors = omega arith in
    let parts : List ListPart = parts_of g.C.DocCursor.list cursors in
    let docs : List ℕ = docs_of (joined_list parts) in
    let counted : c.len-count.result ≡ length (g.C.DocCursor.list c.part-item.result.1) = c.len-count.ensures in
    let few = rising-length docs 4294967295 c.requires.list.rising c.requires.list.docs in
    omega (
      arith,
      few,
      docs_of-length (joined_list parts),
      part-within parts i (omega (arith, parts-many g.C.DocCursor.list cursors)),
      c.loop-part.invariant,
      counted,
      ap (λ x. length (g.C.DocCursor.list x.1)) c.part-item.is,
      ap (λ p. length p.list) (part-read g.C.DocCursor.list cursors i c.part-item.result within),
    )

pub loop-part-preserved : goal.loop-part-preserved
loop-part-preserved g c =
    let cursors = c.args.parts.now in
    let i : ℕ = c.loop-part.part-index in
    let within : i < length cursors = omega arith in
    let parts : List ListPart = parts_of g.C.DocCursor.list cursors in
    let counted : c.len-count.result ≡ length (g.C.DocCursor.list c.part-item.result.1) = c.len-count.ensures in
    omega (arith, start-next parts i (omega (arith, parts-many g.C.DocCursor.list cursors)), c.loop-part.invariant, counted, ap (λ x. length (g.C.DocCursor.list x.1)) c.part-item.is, ap (λ p. length p.list) (part-read g.C.DocCursor.list cursors i c.part-item.result within))

pub returns : goal.returns
returns g c =
    let cursors = c.args.parts.now in
    c.loop-part.invariant ∙ start-past (parts_of g.C.DocCursor.list cursors) c.loop-part.part-index (omega (arith, parts-many g.C.DocCursor.list cursors))
