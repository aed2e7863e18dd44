use Rattle.std.proofs.Common.{◌∙◌, ap, arith}
use Rattle.std.specs.Prelude.{option_map}
use Rattle.collection_model.specs.Collection.{first_at_least}
use Rattle.index_file.proofs.FileKinds.{list-of-views, narrow-words}
use Rattle.index_file.proofs.index.posting_from.Goals as goal

pub first_posting-requires : goal.first_posting-requires
first_posting-requires c =
    let list = c.list_views-list in
    let i = c.requires.index in
    let read = list-of-views c.file_laws.ensures c.args.format c.args.words.now (narrow-words c.args.words.now (λ k. omega (arith, c.type_inv.words k))) i.0 i.1 i.2 c.args.t c.requires.within
    list.result.docs c.into_view-freqs.result list.result.greatest list.ensures.docs (c.into_view-freqs.ensures ∙ list.ensures.freqs) list.ensures.greatest in
    record { same_length = read.same_length; list = read.cursor }

pub returns : goal.returns
returns c collection parts h =
    let list = c.list_views-list in
    let read = list-of-views c.file_laws.ensures c.args.format c.args.words.now (narrow-words c.args.words.now (λ k. omega (arith, c.type_inv.words k))) collection parts h c.args.t c.requires.within
    list.result.docs c.into_view-freqs.result list.result.greatest list.ensures.docs (c.into_view-freqs.ensures ∙ list.ensures.freqs) list.ensures.greatest in
    c.first_posting.ensures ∙ ap (λ ps. option_map (λ p. (p.doc, p.freq)) (first_at_least ps c.args.d)) read.give
