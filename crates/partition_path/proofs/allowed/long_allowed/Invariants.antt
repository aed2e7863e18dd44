use Rattle.std.proofs.Common.{◌+◌, ◌-◌, ◌<◌, ◌≤◌}
use Rattle.part_cost.specs.Formats.{numbers_of}
use Rattle.partition_path.proofs.allowed.long_allowed.Given as goal

abbrev pub invariant-loop-turns : goal.invariant-loop-turns
invariant-loop-turns g l =
    (l.start < l.low) × (l.low ≤ l.high) × (l.high ≤ l.last) × (g.C.SpanCost.cost_of l.cost l.start l.low ≤ (numbers_of (g.C.SpanCost.format_of l.cost)).limit)
    × (l.fn.steps ≤ l.steps) × (l.steps ≤ l.fn.steps + 1 + l.turns) × (l.turns ≤ 32)

abbrev pub decreases-loop-turns : goal.decreases-loop-turns
decreases-loop-turns g l = 32 - l.turns
