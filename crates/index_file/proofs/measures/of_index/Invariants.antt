use Rattle.std.proofs.Common.{◌≡◌, ◌+◌, drop, map}
use Rattle.std.specs.List.{sum}
use Rattle.index_file.specs.IndexView.{index_stated, cut_lists}
use Rattle.index_file.specs.Measures.{Measure, counted, measure_of_list}
use Rattle.index_file.proofs.measures.of_index.Given as goal

abbrev pub invariant-loop-t : goal.invariant-loop-t
invariant-loop-t l = (measure : Measure)
    → counted l.total measure + sum (drop l.t (map (measure_of_list measure) (cut_lists (index_stated l.words)))) ≡ sum (map (measure_of_list measure) (cut_lists (index_stated l.words)))
