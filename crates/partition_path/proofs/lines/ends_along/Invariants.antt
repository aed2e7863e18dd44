use Rattle.std.proofs.Common.{◌-◌, ◌≤◌, length, reverse}
use Rattle.part_cost.specs.Partition.{IsPartitionFrom}
use Rattle.partition_path.proofs.lines.ends_along.Given as goal

abbrev pub invariant-loop-end : goal.invariant-loop-end
invariant-loop-end l = IsPartitionFrom l.end (length l.known - 1) (reverse l.ends.items) × (l.end ≤ length l.known - 1)

abbrev pub decreases-loop-end : goal.decreases-loop-end
decreases-loop-end l = l.end
