use Rattle.std.proofs.Common.{◌≡◌, ◌+◌, ◌-◌, ◌^◌, ◌<◌, ◌≤◌, IsTrue}
use Rattle.part_cost.specs.Formats.{numbers_of}
use Rattle.partition_path.proofs.LeastRests.{IsLeastTo}
use Rattle.partition_path.proofs.exact.costs_from.Given as goal

abbrev pub invariant-loop-end : goal.invariant-loop-end
invariant-loop-end g l =
    IsLeastTo l.limited (numbers_of (g.C.SpanCost.format_of l.cost)).limit (g.C.SpanCost.cost_of l.cost) (g.C.SpanCost.count l.cost) l.rests l.i l.end l.least
    × (l.steps + 1 + l.i ≡ l.fn.steps + l.end)
    × (l.least < 2 ^ 64)
    × (IsTrue l.limited → g.C.SpanCost.cost_of l.cost l.i (l.end - 1) ≤ (numbers_of (g.C.SpanCost.format_of l.cost)).limit)
    × (l.last ≡ g.C.SpanCost.cost_of l.cost l.i (l.end - 1))
