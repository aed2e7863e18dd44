use Rattle.std.proofs.Common.{◌∙◌, ap}
use Rattle.pefidx_c.proofs.KeptLists.{ranges-kept}
use Rattle.pefidx_c.proofs.kept.numbers_kept.Goals as goal

pub list_heads-requires-clause-lists : goal.list_heads-requires-clause-lists
list_heads-requires-clause-lists c =
    ranges-kept c.packed_lists_stand.ensures c.args.words.now c.deref.result.now c.documents-documents.result c.requires.index
    (c.documents-documents.ensures ∙ ap (λ i. i.collection.documents) c.known.ensures.stated) (c.deref.ensures.value ∙ c.in_ok-starts.ensures.starts)
