use Rattle.std.proofs.Common.{◌≡◌, ◌+◌, drop}
use Rattle.part_cost.specs.Partition.{IsPartitionFrom, cost_from, partition_cost}
use Rattle.partition_path.proofs.joints.total_cost.Given as goal

abbrev pub invariant-loop-end : goal.invariant-loop-end
invariant-loop-end g l =
    (l.total + cost_from (g.C.SpanCost.cost_of l.cost) l.start (drop l.end-index l.ends) ≡ partition_cost (g.C.SpanCost.cost_of l.cost) l.ends)
    × IsPartitionFrom l.start (g.C.SpanCost.count l.cost) (drop l.end-index l.ends)
    × (l.steps ≡ l.fn.steps + l.end-index)
