use Rattle.std.proofs.Common.{subst, sym}
use Rattle.collection_model.specs.Collection.{Collection}
use Rattle.index_intervals.specs.LongLists.{AreIndexMaxima}
use Rattle.line_replies.proofs.intervals.JoinedIntervals.over.Goals as goal

pub invariant_of-result : goal.invariant_of-result
invariant_of-result c = record {
  of_lists = subst (λ (x : Collection). AreIndexMaxima c.args.words x c.args.maxima.bytes.now) (sym c.over-lists.ensures) c.requires;
}
