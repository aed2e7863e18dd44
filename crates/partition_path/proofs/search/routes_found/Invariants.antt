use Rattle.part_cost.specs.Formats.{numbers_of}
use Rattle.cost_windows.specs.WindowBounds.{window_bounds}
use Rattle.partition_path.proofs.Searching.{Searched}
use Rattle.partition_path.proofs.search.routes_found.Given as goal

abbrev pub invariant-loop-i : goal.invariant-loop-i
invariant-loop-i g l =
    Searched (numbers_of (g.C.SpanCost.format_of l.cost)).limit (g.C.SpanCost.cost_of l.cost) (window_bounds (g.C.SpanCost.format_of l.cost)) l.looks (g.C.SpanCost.count l.cost) l.i l.fn.steps l.steps l.routes l.stands.items
