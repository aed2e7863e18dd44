use Rattle.std.proofs.Common.{◌<◌, ◌≤◌, sym, ap, ◌∙◌, Some, length, arith}
use Rattle.std.proofs.lemmas.List.Elements.{All-get_or}
use Rattle.std.proofs.lemmas.Option.{slice_get_past, slice_get-get_or}
use Rattle.postings.proofs.Lists.{in-doc, cursor-docs}
use Rattle.postings.proofs.cursor.PostingCursorDocCursor.doc.Goals as goal

pub overflow_cast-result : goal.overflow_cast-result
overflow_cast-result c =
    let s = c.args.self.now in
    let stands = c.in-Some.ensures.some in
    omega (arith, stands.1, All-get_or (λ d. d < 4294967295) s.docs.sequence.values s.docs.place 0 stands.0 (cursor-docs s.docs.sequence.values s.sums.sequence.values s.same_length s.cursor.well_formed))

pub returns-in-Some : goal.returns-in-Some
returns-in-Some c =
    let s = c.args.self.now in
    let stands = c.in-Some.ensures.some in
    ap Some stands.1 ∙ sym (slice_get-get_or s.docs.sequence.values s.docs.place 0 stands.0)
    ∙ in-doc s.docs.sequence.values s.sums.sequence.values s.docs.place s.same_length

pub returns-in-None : goal.returns-in-None
returns-in-None c =
    let s = c.args.self.now in
    let past : length s.docs.sequence.values ≤ s.docs.place = omega (arith, c.in-None.ensures.none) in
    sym (slice_get_past s.docs.sequence.values s.docs.place past)
    ∙ in-doc s.docs.sequence.values s.sums.sequence.values s.docs.place s.same_length
