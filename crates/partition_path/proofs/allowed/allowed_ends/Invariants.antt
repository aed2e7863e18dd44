use Rattle.std.proofs.Common.{◌≡◌, suc, ◌+◌, ◌-◌, ◌*◌, ◌<◌, ◌≤◌, ◌⊎◌, drop, get_or}
use Rattle.part_cost.specs.Formats.{numbers_of}
use Rattle.part_cost.specs.Partition.{IsAllowed, IsPartitionFrom, WithinLimitFrom}
use Rattle.partition_path.proofs.Pieces.{AreKept}
use Rattle.partition_path.proofs.allowed.allowed_ends.Given as goal

abbrev pub invariant-loop-k : goal.invariant-loop-k
invariant-loop-k g l =
    IsAllowed (numbers_of (g.C.SpanCost.format_of l.cost)).limit (g.C.SpanCost.cost_of l.cost) l.start l.allowed.items
    × IsPartitionFrom l.start (g.C.SpanCost.count l.cost) (drop l.k l.ends)
    × (l.fn.steps ≤ l.steps) × (l.steps ≤ l.fn.steps + 33 * l.start)
    × (WithinLimitFrom (numbers_of (g.C.SpanCost.format_of l.cost)).limit (g.C.SpanCost.cost_of l.cost) 0 l.ends
    → AreKept (numbers_of (g.C.SpanCost.format_of l.cost)).limit (g.C.SpanCost.cost_of l.cost) l.ends l.allowed.items (drop l.k l.ends) l.start)

abbrev pub invariant-loop-start : goal.invariant-loop-start
invariant-loop-start g l =
    IsAllowed (numbers_of (g.C.SpanCost.format_of l.cost)).limit (g.C.SpanCost.cost_of l.cost) l.start l.allowed.items
    × (l.start ≤ get_or l.ends l.k 0)
    × (l.fn.steps ≤ l.steps) × (l.steps ≤ l.fn.steps + 33 * l.start)
    × (WithinLimitFrom (numbers_of (g.C.SpanCost.format_of l.cost)).limit (g.C.SpanCost.cost_of l.cost) 0 l.ends
    → ((l.start < get_or l.ends l.k 0) × AreKept (numbers_of (g.C.SpanCost.format_of l.cost)).limit (g.C.SpanCost.cost_of l.cost) l.ends l.allowed.items (drop l.k l.ends) l.start)
    ⊎ ((l.start ≡ get_or l.ends l.k 0) × AreKept (numbers_of (g.C.SpanCost.format_of l.cost)).limit (g.C.SpanCost.cost_of l.cost) l.ends l.allowed.items (drop (suc l.k) l.ends) l.start))

abbrev pub decreases-loop-start : goal.decreases-loop-start
decreases-loop-start g l = get_or l.ends l.k 0 - l.start
