use Rattle.std.proofs.Common.{drop}
use Rattle.part_cost.specs.Partition.{IsPartitionFrom, IsPartition}
use Rattle.worked_sequences.proofs.sequences.is_partition.Given as goal

abbrev pub invariant-loop-end : goal.invariant-loop-end
invariant-loop-end l = IsPartitionFrom l.from l.count (drop l.end-index l.ends) → IsPartition l.count l.ends
