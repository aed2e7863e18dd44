use Rattle.std.proofs.Common.{◌≡◌, ◌+◌, ap, length, subst, arith}
use Rattle.std.specs.Prelude.{slice_index}
use Rattle.part_cost.specs.Span.{past}
use Rattle.collection_model.specs.Collection.{docs_of, list_of}
use Rattle.index_file.specs.IndexView.{doc_ends_of}
use Rattle.index_file.proofs.Blocks.{block-of-index, last-value}
use Rattle.index_file.proofs.index.Index.block_last.Goals as goal

pub last_of_part-requires : goal.last_of_part-requires
last_of_part-requires c = record { within = omega (arith, c.requires.part, ap (λ v. length v.ends) c.list.ensures.docs) }

pub overflow_cast-result : goal.overflow_cast-result
overflow_cast-result c =
    let now = c.args.self.now in
    let block = block-of-index now c.stands_for_a_collection.ensures.well_formed c.stands_for_a_collection.ensures.partitions c.args.t c.args.q c.requires.within c.requires.part in
    let is = subst (λ v. c.last_of_part.result + 1 ≡ past v.values (slice_index v.ends c.args.q)) c.list.ensures.docs c.last_of_part.ensures in
    omega (arith, block.last, last-value (docs_of (list_of now.collection c.args.t)) c.last_of_part.result (slice_index (doc_ends_of now c.args.t) c.args.q) is)

pub returns : goal.returns
returns c =
    let now = c.args.self.now in
    let is = subst (λ v. c.last_of_part.result + 1 ≡ past v.values (slice_index v.ends c.args.q)) c.list.ensures.docs c.last_of_part.ensures in
    last-value (docs_of (list_of now.collection c.args.t)) c.last_of_part.result (slice_index (doc_ends_of now c.args.t) c.args.q) is
