use Rattle.std.proofs.Common.{◌≡◌, ◌+◌, ◌*◌, ◌≤◌, drop, map, length}
use Rattle.std.specs.List.{sum}
use Rattle.collection_model.specs.Collection.{Posting}
use Rattle.index_file.specs.IndexView.{index_stated}
use Rattle.index_file.proofs.totals.all_postings.Given as goal

abbrev pub invariant-loop-t : goal.invariant-loop-t
invariant-loop-t l = record {
  so_far : l.total + sum (drop l.t (map (length {A = Posting}) (index_stated l.words).collection.lists)) ≡ sum (map (length {A = Posting}) (index_stated l.words).collection.lists);
  few : l.total ≤ 4294967295 * l.t;
}
