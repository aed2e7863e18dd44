use Rattle.std.proofs.Common.{◌≡◌, ◌+◌, ◌-◌, ◌<◌, ◌≤◌, length, get_or}
use Rattle.std.specs.Prelude.{IfSome}
use Rattle.std.specs.List.{sum}
use Rattle.part_cost.specs.Formats.{numbers_of}
use Rattle.cost_windows.specs.WindowBounds.{window_bounds}
use Rattle.partition_path.proofs.Windowing.{Windowed}
use Rattle.partition_path.proofs.search.try_windows.Given as goal

abbrev pub invariant-loop-k : goal.invariant-loop-k
invariant-loop-k g l =
    Windowed (numbers_of (g.C.SpanCost.format_of l.cost)).limit (g.C.SpanCost.cost_of l.cost) (window_bounds (g.C.SpanCost.format_of l.cost)) (g.C.SpanCost.count l.cost) l.i l.fn.routes l.routes l.k l.edge l.stands.items
    × (l.steps + sum l.fn.stands.items ≤ l.fn.steps + sum l.stands.items + l.k + l.looked)
    × (l.k ≤ length l.bounds)
    × (l.bounds ≡ window_bounds (g.C.SpanCost.format_of l.cost))
    × (l.fn.steps ≤ l.steps)
    × (l.looked ≤ l.looks)
    × (l.k < length l.bounds → IfSome l.edge.next (λ c. c ≤ get_or l.bounds l.k 0))

abbrev pub decreases-loop-k : goal.decreases-loop-k
decreases-loop-k g l = length l.bounds - l.k
