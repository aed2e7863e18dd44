use Rattle.part_cost.specs.Formats.{numbers_of}
use Rattle.partition_path.proofs.Shifting.{next-end}
use Rattle.partition_path.proofs.joints.total_cost.Goals as goal

pub cost-total-requires-clause-within : goal.cost-total-requires-clause-within
cost-total-requires-clause-within g c =
    next-end (numbers_of (g.C.SpanCost.format_of c.args.cost.now)).limit (g.C.SpanCost.cost_of c.args.cost.now) (g.C.SpanCost.count c.args.cost.now) c.loop-end.start c.args.ends.now c.loop-end.end-index c.loop-end-test.true c.loop-end.invariant.1
