use Rattle.std.proofs.Common.{◌≡◌, ℕ, ◌<◌, ◌≤◌, leb, ap, sym, subst, ◌∙◌, length, List, get_or, arith}
use Rattle.std.specs.List.{count_by}
use Rattle.std.proofs.lemmas.List.{take_all}
use Rattle.collection_model.specs.Collection.{Posting, freqs_of}
use Rattle.segments.specs.Joined.{ListPart, joined_list}
use Rattle.segments.specs.JoinedCursor.{no_part, parts_of}
use Rattle.segments.proofs.Frequencies.{told-more}
use Rattle.segments.proofs.Joins.{part-read, parts-many}
use Rattle.segments.proofs.parts.common_of.Goals as goal

pub loop-part-preserved : goal.loop-part-preserved
loop-part-preserved g c =
    let list = g.C.DocCursor.list in
    let cursors = c.args.parts.now in
    let i : ℕ = c.loop-part.part-index in
    let within : i < length cursors = omega arith in
    let parts : List ListPart = parts_of list cursors in
    let told : ℕ = c.common_freq.result in
    let here : (get_or parts i no_part).list ≡ list c.part-item.result.1 =
    ap (λ p. p.list) (part-read list cursors i c.part-item.result within) ∙ ap (λ x. list x.1) (sym c.part-item.is) in
    told-more c.args.k parts i told c.loop-part.most c.max-most.result (omega (arith, parts-many list cursors)) c.max-most.ensures
    (λ some. subst (λ (ps : List Posting). c.args.k ≤ count_by (λ f. leb told f) (freqs_of ps)) (sym here) (c.common_freq.ensures some)) c.loop-part.invariant

pub returns : goal.returns
returns g c = λ some.
    let cursors = c.args.parts.now in
    let parts : List ListPart = parts_of g.C.DocCursor.list cursors in
    subst (λ (ps : List ListPart). c.args.k ≤ count_by (λ f. leb c.loop-part.most f) (freqs_of (joined_list ps))) (take_all c.loop-part.part-index parts (omega (arith, parts-many g.C.DocCursor.list cursors))) (c.loop-part.invariant some)
