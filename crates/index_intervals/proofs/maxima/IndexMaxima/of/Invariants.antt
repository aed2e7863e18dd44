use Rattle.std.proofs.Common.{◌≡◌, ◌*◌, ◌≤◌}
use Rattle.collection_model.specs.Collection.{list_of}
use Rattle.index_file.specs.IndexView.{word_count}
use Rattle.interval_max.specs.Kept.{HoldsMaxima}
use Rattle.index_intervals.specs.LongLists.{StandsBefore, has_maxima, long_postings}
use Rattle.index_intervals.proofs.maxima.IndexMaxima.of.Given as goal

abbrev pub invariant-loop-term : goal.invariant-loop-term
invariant-loop-term l = record {
  stands : StandsBefore l.index l.term l.lists;
  postings_are : l.postings ≡ long_postings l.index.collection l.term;
  narrow : l.postings ≤ 4294967295 * l.term;
  holds : HoldsMaxima (has_maxima (word_count l.index) l.index.collection) (list_of l.index.collection) l.term l.writer;
}
