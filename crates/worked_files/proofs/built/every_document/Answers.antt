use Rattle.std.proofs.Common.{◌≡◌, ◌∙◌, sym, ap, subst, rules, length, replicate}
use Rattle.std.specs.List.{range_with_len}
use Rattle.std.proofs.lemmas.List.{length-replicate}
use Rattle.std.proofs.lemmas.List.FromFn.{length-range_with_len}
use Rattle.collection_model.specs.Collection.{postings_of, IsPostingList}
use Rattle.part_cost.specs.Formats.{numbers_of}
use Rattle.part_cost.proofs.Rooms.{formats-have-room}
use Rattle.worked_files.proofs.EveryDocument.{every-list}
use Rattle.worked_files.proofs.built.every_document.Goals as goal

pub add_list-requires-clause-same_length : goal.add_list-requires-clause-same_length
add_list-requires-clause-same_length g c =
    let docs : c.deref.result.now ≡ range_with_len 0 c.args.count = c.deref.ensures.value ∙ c.first_documents-docs.ensures in
    let freqs : c.deref-2.result.now ≡ replicate c.args.count 1 = search rules in
    ap length docs ∙ length-range_with_len 0 c.args.count ∙ sym (ap length freqs ∙ length-replicate c.args.count 1)

pub add_list-requires-clause-list : goal.add_list-requires-clause-list
add_list-requires-clause-list g c =
    let docs : range_with_len 0 c.args.count ≡ c.deref.result.now = sym (c.deref.ensures.value ∙ c.first_documents-docs.ensures) in
    let freqs : c.deref-2.result.now ≡ replicate c.args.count 1 = search rules in
    let format : c.expect-builder.result.format ≡ c.args.format = search rules in
    let documents : c.expect-builder.result.documents ≡ c.args.count = search rules in
    let list = every-list (numbers_of c.args.format) (formats-have-room c.args.format) c.args.count c.requires.few in
    subst (λ f. IsPostingList (numbers_of f) c.expect-builder.result.documents (postings_of c.deref.result.now c.deref-2.result.now)) (sym format)
    (subst (λ n. IsPostingList (numbers_of c.args.format) n (postings_of c.deref.result.now c.deref-2.result.now)) (sym documents)
    (subst (λ xs. IsPostingList (numbers_of c.args.format) c.args.count (postings_of xs c.deref-2.result.now)) docs
    (subst (λ fs. IsPostingList (numbers_of c.args.format) c.args.count (postings_of (range_with_len 0 c.args.count) fs)) (sym freqs) list)))
