use Rattle.std.proofs.Common.{◌≡◌, ℕ, ap, ◌∙◌, List, length, subst, arith}
use Rattle.std.specs.Prelude.{slice_index}
use Rattle.collection_model.specs.Collection.{docs_of, list_of}
use Rattle.collection_model.specs.Sequences.{freq_sequence}
use Rattle.part_cost.specs.Span.{past}
use Rattle.two_level.specs.PartOf.{IsPartOf}
use Rattle.two_level.specs.SequenceView.{start_of_part}
use Rattle.two_level.specs.Steps.{greatest_step}
use Rattle.index_file.specs.IndexView.{doc_ends_of}
use Rattle.index_file.proofs.Blocks.{block-of-index, last-value}
use Rattle.index_file.proofs.index.Index.block.Goals as goal

pub part-part-requires : goal.part-part-requires
part-part-requires c = record { within = omega (arith, c.requires.part, ap (λ v. length v.ends) c.list-list.ensures.docs) }

pub greatest_step-greatest-requires-clause-order : goal.greatest_step-greatest-requires-clause-order
greatest_step-greatest-requires-clause-order c =
    let now = c.args.self.now in
    let block = block-of-index now c.stands_for_a_collection.ensures.well_formed c.stands_for_a_collection.ensures.partitions c.args.t c.args.q c.requires.within c.requires.part in
    let part = subst (λ v. IsPartOf v c.args.q c.part-part.result) c.list-list.ensures.docs c.part-part.ensures in
    omega (arith, block.some, part.start, part.end)

pub greatest_step-greatest-requires-clause-within : goal.greatest_step-greatest-requires-clause-within
greatest_step-greatest-requires-clause-within c =
    let now = c.args.self.now in
    let block = block-of-index now c.stands_for_a_collection.ensures.well_formed c.stands_for_a_collection.ensures.partitions c.args.t c.args.q c.requires.within c.requires.part in
    let part = subst (λ v. IsPartOf v c.args.q c.part-part.result) c.list-list.ensures.docs c.part-part.ensures in
    omega (arith, block.within, block.sums, part.end, ap (λ v. length v.values) (c.into_view.ensures ∙ c.list-list.ensures.freqs))

pub overflow_cast-result : goal.overflow_cast-result
overflow_cast-result c =
    let now = c.args.self.now in
    let block = block-of-index now c.stands_for_a_collection.ensures.well_formed c.stands_for_a_collection.ensures.partitions c.args.t c.args.q c.requires.within c.requires.part in
    let part = subst (λ v. IsPartOf v c.args.q c.part-part.result) c.list-list.ensures.docs c.part-part.ensures in
    let docs : List ℕ = docs_of (list_of now.collection c.args.t) in
    let end : ℕ = slice_index (doc_ends_of now c.args.t) c.args.q in
    omega (arith, block.last, last-value docs c.part-part.result.last end (part.last ∙ ap (past docs) part.end))

pub overflow_cast-result-2 : goal.overflow_cast-result-2
overflow_cast-result-2 c =
    let now = c.args.self.now in
    let block = block-of-index now c.stands_for_a_collection.ensures.well_formed c.stands_for_a_collection.ensures.partitions c.args.t c.args.q c.requires.within c.requires.part in
    let part = subst (λ v. IsPartOf v c.args.q c.part-part.result) c.list-list.ensures.docs c.part-part.ensures in
    let sums : List ℕ = freq_sequence (list_of now.collection c.args.t) in
    let step : c.greatest_step-greatest.result ≡ greatest_step sums c.part-part.result.from c.part-part.result.to =
    c.greatest_step-greatest.ensures ∙ ap (λ v. greatest_step v.values c.part-part.result.from c.part-part.result.to) (c.into_view.ensures ∙ c.list-list.ensures.freqs) in
    omega (arith, step, ap (λ k. greatest_step sums k c.part-part.result.to) part.start, ap (λ k. greatest_step sums (start_of_part (doc_ends_of now c.args.t) c.args.q) k) part.end, block.steps, block.small)

pub returns-clause-last : goal.returns-clause-last
returns-clause-last c =
    let now = c.args.self.now in
    let part = subst (λ v. IsPartOf v c.args.q c.part-part.result) c.list-list.ensures.docs c.part-part.ensures in
    let docs : List ℕ = docs_of (list_of now.collection c.args.t) in
    last-value docs c.part-part.result.last (slice_index (doc_ends_of now c.args.t) c.args.q) (part.last ∙ ap (past docs) part.end)

pub returns-clause-greatest : goal.returns-clause-greatest
returns-clause-greatest c =
    let now = c.args.self.now in
    let block = block-of-index now c.stands_for_a_collection.ensures.well_formed c.stands_for_a_collection.ensures.partitions c.args.t c.args.q c.requires.within c.requires.part in
    let part = subst (λ v. IsPartOf v c.args.q c.part-part.result) c.list-list.ensures.docs c.part-part.ensures in
    let sums : List ℕ = freq_sequence (list_of now.collection c.args.t) in
    c.greatest_step-greatest.ensures
    ∙ ap (λ v. greatest_step v.values c.part-part.result.from c.part-part.result.to) (c.into_view.ensures ∙ c.list-list.ensures.freqs)
    ∙ ap (λ k. greatest_step sums k c.part-part.result.to) part.start
    ∙ ap (λ k. greatest_step sums (start_of_part (doc_ends_of now c.args.t) c.args.q) k) part.end
    ∙ block.steps
