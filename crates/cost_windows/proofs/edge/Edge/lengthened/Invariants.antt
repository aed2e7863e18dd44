use Rattle.std.proofs.Common.{◌≡◌, ◌+◌, ◌-◌, ◌<◌, ◌≤◌, None}
use Rattle.std.specs.Prelude.{IsSome}
use Rattle.cost_windows.specs.EdgeFacts.{Knows}
use Rattle.cost_windows.proofs.edge.Edge.lengthened.Given as goal

abbrev pub invariant-loop-edge : goal.invariant-loop-edge
invariant-loop-edge g l =
    Knows (g.C.SpanCost.cost_of l.cost) (g.C.SpanCost.count l.cost) l.i l.edge
    × (l.initial.edge.end < l.edge.end → IsSome l.edge.cost × (g.C.SpanCost.cost_of l.cost l.i l.edge.end ≤ l.bound))
    × (l.initial.edge.end ≤ l.edge.end)
    × (l.edge.end ≡ l.initial.edge.end → (l.edge ≡ l.initial.edge) × (l.steps ≡ l.initial.steps))
    × (l.steps + l.initial.edge.end ≤ l.initial.steps + l.edge.end)
    × (l.initial.steps ≤ l.steps)
    × (l.initial.edge.next ≡ None → l.initial.edge.end < l.edge.end → l.initial.steps + 1 ≤ l.steps)

abbrev pub decreases-loop-edge : goal.decreases-loop-edge
decreases-loop-edge g l = g.C.SpanCost.count l.cost - l.edge.end
