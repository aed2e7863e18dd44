use Rattle.std.proofs.Common.{◌≡◌, ℕ, ◌<◌, ap, ◌∙◌, length, List, take, arith}
use Rattle.std.proofs.lemmas.List.{take_all}
use Rattle.collection_model.specs.Collection.{greatest_freq}
use Rattle.segments.specs.Joined.{ListPart, joined_list}
use Rattle.segments.specs.JoinedCursor.{parts_of}
use Rattle.segments.proofs.Joins.{greatest-more, part-read, parts-many}
use Rattle.segments.proofs.parts.greatest_of.Goals as goal

pub loop-part-preserved : goal.loop-part-preserved
loop-part-preserved g c =
    let cursors = c.args.parts.now in
    let i : ℕ = c.loop-part.part-index in
    let within : i < length cursors = omega arith in
    let parts : List ListPart = parts_of g.C.DocCursor.list cursors in
    let most : c.max_freq.result ≡ greatest_freq (g.C.DocCursor.list c.part-item.result.1) = c.max_freq.ensures in
    let so_far : c.loop-part.most ≡ greatest_freq (joined_list (take i parts)) = c.loop-part.invariant in
    omega (arith, greatest-more parts i (omega (arith, parts-many g.C.DocCursor.list cursors)), so_far, most, c.max-most.ensures, ap (λ x. greatest_freq (g.C.DocCursor.list x.1)) c.part-item.is, ap (λ p. greatest_freq p.list) (part-read g.C.DocCursor.list cursors i c.part-item.result within))

pub returns : goal.returns
returns g c =
    let cursors = c.args.parts.now in
    let parts : List ListPart = parts_of g.C.DocCursor.list cursors in
    c.loop-part.invariant ∙ ap (λ ps. greatest_freq (joined_list ps)) (take_all c.loop-part.part-index parts (omega (arith, parts-many g.C.DocCursor.list cursors)))
