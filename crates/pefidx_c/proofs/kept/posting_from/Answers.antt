use Rattle.std.proofs.Common.{◌+◌, ◌/◌, length, refl, sym, ap, ◌∙◌, arith}
use Rattle.std.specs.Prelude.{option_map, slice_index}
use Rattle.collection_model.specs.Collection.{first_at_least}
use Rattle.pefidx_c.proofs.KeptLists.{is-kept, HeadKept, head-kept}
use Rattle.pefidx_c.proofs.kept.posting_from.Goals as goal
use Rattle.pefidx_c.proofs.kept.posting_from.Goals.{After-documents}

pub bounds-kept-kept : goal.bounds-kept-kept
bounds-kept-kept c = (is-kept c.args.words.now c.args.kept.now c.args.term c.requires.kept (omega (arith, c.if-kept-lt2.false)) c.requires.within).head_within

pub overflow_add-from-2 : goal.overflow_add-from-2
overflow_add-from-2 c =
    let k = is-kept c.args.words.now c.args.kept.now c.args.term c.requires.kept (omega (arith, c.if-kept-lt2.false)) c.requires.within in
    let b = c.packed_lists_stand.ensures c.args.words.now c.requires.is_index k.three c.args.term k.within in
    omega (arith, k.start, b.ordered, b.few)

-- what is kept of the list
list : (c : After-documents)
    → HeadKept c.args.words.now c.documents.result (128 + slice_index c.args.kept.now (1 + c.args.term)) (slice_index c.args.kept.now (length c.args.kept.now / 2 + 1 + c.args.term)) c.args.term
list c =
    let k = is-kept c.args.words.now c.args.kept.now c.args.term c.requires.kept (omega (arith, c.if-kept-lt2.false)) c.requires.within in
    head-kept c.packed_lists_stand.ensures c.args.words.now c.args.kept.now c.documents.result (128 + slice_index c.args.kept.now (1 + c.args.term)) c.args.term c.requires.is_index k
    (c.documents.ensures ∙ ap (λ x. x.documents) c.requires.collection) refl (omega (arith, c.documents.type_inv)) c.if-head-eq0.false

pub posting_by_head-requires-clause-list : goal.posting_by_head-requires-clause-list
posting_by_head-requires-clause-list c = (list (goal.at.posting_by_head-requires-clause-list c).After-documents).list

pub posting_by_head-requires-clause-many : goal.posting_by_head-requires-clause-many
posting_by_head-requires-clause-many c = (list (goal.at.posting_by_head-requires-clause-many c).After-documents).many

pub posting_by_head-requires-clause-head : goal.posting_by_head-requires-clause-head
posting_by_head-requires-clause-head c = (list (goal.at.posting_by_head-requires-clause-head c).After-documents).head_is

pub returns : goal.returns
returns c = c.posting_by_head.ensures ∙ ap (λ ps. option_map (λ p. (p.doc, p.freq)) (first_at_least ps c.args.d)) (sym (list (goal.at.returns c).After-documents).is)
