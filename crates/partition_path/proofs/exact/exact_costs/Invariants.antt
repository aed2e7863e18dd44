use Rattle.std.proofs.Common.{◌≡◌, ◌+◌, ◌-◌, ◌*◌, ◌≤◌, ◌<◌, ℕ, IsTrue, None, length}
use Rattle.partition_path.specs.Rests.{LongPartsAreAbove, cost_within}
use Rattle.part_cost.specs.Formats.{numbers_of}
use Rattle.partition_path.proofs.LeastRests.{AreKnown}
use Rattle.partition_path.proofs.exact.exact_costs.Given as goal

abbrev pub invariant-loop-taken : goal.invariant-loop-taken
invariant-loop-taken g l =
    (length l.rests.items ≡ g.C.SpanCost.count l.cost + 1)
    × AreKnown l.limited (numbers_of (g.C.SpanCost.format_of l.cost)).limit (g.C.SpanCost.cost_of l.cost) (g.C.SpanCost.count l.cost) (g.C.SpanCost.count l.cost - l.taken) l.rests.items
    × (2 * l.steps ≤ 2 * l.fn.steps + l.taken * (l.taken + 1))
    × (l.fn.steps + l.taken ≤ l.steps)
    × (IsTrue l.limited → (b : ℕ) → LongPartsAreAbove (numbers_of (g.C.SpanCost.format_of l.cost)).limit (g.C.SpanCost.cost_of l.cost) (g.C.SpanCost.count l.cost) b → l.steps ≤ l.fn.steps + l.taken * (b + 1))
    × (l.taken ≡ 0 → l.whole ≡ None)
    × (0 < l.taken → l.whole ≡ cost_within l.limited (numbers_of (g.C.SpanCost.format_of l.cost)).limit (g.C.SpanCost.cost_of l.cost (g.C.SpanCost.count l.cost - l.taken) (g.C.SpanCost.count l.cost)))
