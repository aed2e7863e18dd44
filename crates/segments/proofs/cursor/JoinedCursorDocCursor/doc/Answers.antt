use Rattle.std.proofs.Common.{◌≡◌, ◌+◌, ◌<◌, sym, ap, ◌∙◌, subst, length, List, get_or, arith}
use Rattle.std.specs.List.{All, slice_get}
use Rattle.std.specs.Option.{option_map}
use Rattle.collection_model.specs.Collection.{docs_of}
use Rattle.segments.specs.Joined.{ListPart, joined_list, shifted}
use Rattle.segments.specs.JoinedCursor.{parts_of, start_of}
use Rattle.segments.proofs.Joins.{is-here, part-few, doc-there}
use Rattle.segments.proofs.cursor.JoinedCursorDocCursor.doc.Goals as goal

pub part_doc-requires : goal.part_doc-requires
part_doc-requires g c =
    let s = c.args.self.now in
    let list = g.C.DocCursor.list in
    let part = c.in_ok-get.field-0.now in
    let is : part ≡ get_or s.parts.items s.at part = c.in_ok-get.ensures.lookup.3.1 part ∙ ap (λ cs. get_or cs s.at part) c.deref.ensures.value in
    let within : s.at < length s.parts.items = omega (arith, c.in_ok-get.ensures.lookup.3.0, ap length c.deref.ensures.value) in
    let here = is-here list g.C.DocCursor.place s.parts.items s.at part within is s.stands in
    record { few = subst (λ (p : ListPart). All (λ d. d < 4294967295) (docs_of (shifted p.first p.list))) here.part (part-few (parts_of list s.parts.items) s.at 4294967295 here.within s.listed.docs) }

pub returns : goal.returns
returns g c =
    let s = c.args.self.now in
    let list = g.C.DocCursor.list in
    let place = g.C.DocCursor.place in
    let part = c.in_ok-get.field-0.now in
    let is : part ≡ get_or s.parts.items s.at part = c.in_ok-get.ensures.lookup.3.1 part ∙ ap (λ cs. get_or cs s.at part) c.deref.ensures.value in
    let within : s.at < length s.parts.items = omega (arith, c.in_ok-get.ensures.lookup.3.0, ap length c.deref.ensures.value) in
    let here = is-here list place s.parts.items s.at part within is s.stands in
    let parts : List ListPart = parts_of list s.parts.items in
    c.part_doc.ensures
    ∙ sym (ap (λ k. option_map (λ p. p.doc) (slice_get (joined_list parts) (start_of parts s.at + k))) here.place_at
    ∙ doc-there parts s.at (place part.1) here.within (omega (arith, here.left, ap (λ p. length p.list) here.part))
    ∙ ap (λ p. option_map (λ q. q.doc) (slice_get (shifted p.first p.list) (place part.1))) here.part)
