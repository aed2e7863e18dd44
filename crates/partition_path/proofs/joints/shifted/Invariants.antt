use Rattle.std.proofs.Common.{◌≡◌, ◌+◌, ◌*◌, ◌≤◌}
use Rattle.part_cost.specs.Formats.{numbers_of}
use Rattle.partition_path.specs.Joints.{IsAllowedCut}
use Rattle.partition_path.proofs.joints.shifted.Given as goal

abbrev pub invariant-loop-step : goal.invariant-loop-step
invariant-loop-step g l =
    IsAllowedCut (numbers_of (g.C.SpanCost.format_of l.cost)).limit (g.C.SpanCost.cost_of l.cost) l.start l.end l.joint.cut
    × (l.joint.cost ≡ g.C.SpanCost.cost_of l.cost l.start l.joint.cut + g.C.SpanCost.cost_of l.cost l.joint.cut l.end)
    × (l.joint.cost ≤ g.C.SpanCost.cost_of l.cost l.start l.cut + g.C.SpanCost.cost_of l.cost l.cut l.end)
    × (l.steps ≤ l.fn.steps + 2 + 4 * l.step-index)
    × (l.fn.steps ≤ l.steps)
