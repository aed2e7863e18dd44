use Rattle.std.proofs.Common.{subst, sym}
use Rattle.index_file.specs.IndexView.{IndexView, word_count}
use Rattle.index_intervals.specs.LongLists.{AreIndexMaxima}
use Rattle.line_replies.proofs.intervals.IntervalLists.new.Goals as goal

pub invariant_of-result : goal.invariant_of-result
invariant_of-result c = record {
  of_index = subst (λ (i : IndexView). AreIndexMaxima (word_count i) i.collection c.args.maxima.bytes.now) (sym c.new-lists.ensures.index) c.requires;
}
