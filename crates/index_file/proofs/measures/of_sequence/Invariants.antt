use Rattle.std.proofs.Common.{◌≡◌, ◌+◌, drop}
use Rattle.part_cost.specs.Partition.{cost_from, partition_cost}
use Rattle.two_level.specs.SequenceView.{start_of_part}
use Rattle.index_file.specs.Measures.{Measure, counted, measure_of_part}
use Rattle.index_file.proofs.measures.of_sequence.Given as goal

abbrev pub invariant-loop-i : goal.invariant-loop-i
invariant-loop-i l = (measure : Measure)
    → counted l.total measure + cost_from (measure_of_part measure l.sequence.values) (start_of_part l.sequence.ends l.i) (drop l.i l.sequence.ends)
    ≡ partition_cost (measure_of_part measure l.sequence.values) l.sequence.ends
