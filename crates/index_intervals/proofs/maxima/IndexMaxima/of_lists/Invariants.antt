use Rattle.std.proofs.Common.{◌≡◌, ◌*◌, ◌≤◌}
use Rattle.collection_model.specs.Collection.{list_of}
use Rattle.interval_max.specs.Kept.{HoldsMaxima}
use Rattle.index_intervals.specs.LongLists.{has_maxima, long_postings}
use Rattle.index_intervals.proofs.maxima.IndexMaxima.of_lists.Given as goal

abbrev pub invariant-loop-term : goal.invariant-loop-term
invariant-loop-term g l = record {
  postings_are : l.postings ≡ long_postings (g.S.ListSource.collection l.source) l.term;
  narrow : l.postings ≤ 4294967295 * l.term;
  holds : HoldsMaxima (has_maxima l.words (g.S.ListSource.collection l.source)) (list_of (g.S.ListSource.collection l.source)) l.term l.writer;
}
