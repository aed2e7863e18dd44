use Rattle.std.proofs.Common.{◌≡◌, ◌∷◌, ◌+◌, ◌-◌, ◌*◌, ◌<◌, ◌≤◌, length, get_or}
use Rattle.part_cost.specs.Formats.{numbers_of}
use Rattle.part_cost.specs.Partition.{IsAllowed, partition_cost}
use Rattle.partition_path.proofs.joints.shift_ends.Given as goal

abbrev pub invariant-loop-k : goal.invariant-loop-k
invariant-loop-k g l =
    IsAllowed (numbers_of (g.C.SpanCost.format_of l.cost)).limit (g.C.SpanCost.cost_of l.cost) (g.C.SpanCost.count l.cost) l.ends.items
    × (partition_cost (g.C.SpanCost.cost_of l.cost) l.ends.items ≤ partition_cost (g.C.SpanCost.cost_of l.cost) l.fn.ends.items)
    × (length l.ends.items ≡ length l.fn.ends.items)
    × (1 ≤ l.k)
    × (l.start ≡ get_or (0 ∷ l.ends.items) (l.k - 1) 0)
    × (l.steps + 26 ≤ l.fn.steps + 26 * l.k)
    × (l.fn.steps ≤ l.steps)
    × (1 < l.k → l.k ≤ length l.ends.items)
