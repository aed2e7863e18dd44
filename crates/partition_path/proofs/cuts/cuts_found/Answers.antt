use Rattle.std.proofs.Common.{ℕ, List, ◌*◌, ◌≤◌, length, arith}
use Rattle.part_cost.specs.Formats.{numbers_of}
use Rattle.part_cost.specs.Partition.{IsAllowed, partition_cost}
use Rattle.partition_path.specs.Chains.{IsChain}
use Rattle.partition_path.proofs.Traces.{to-last, linked, allowed, total}
use Rattle.partition_path.proofs.cuts.cuts_found.Given as given
use Rattle.partition_path.proofs.cuts.cuts_found.Goals as goal
use Rattle.partition_path.proofs.cuts.cuts_found.Goals.{In_ok-ends}

-- the routes to the ends are a chain
chain : (g : given.Over) (c : In_ok-ends g) → IsChain c.in_ok-routes.routes 0 (g.C.SpanCost.count c.args.cost.now) c.in_ok-ends.field-0.items
chain g c = to-last c.in_ok-routes.routes (length c.in_ok-routes.routes) (g.C.SpanCost.count c.args.cost.now) c.in_ok-ends.field-0.items c.in_ok-routes.ensures.routes.places c.in_ok-ends.ensures

pub ends-requires-clause-linked : goal.ends-requires-clause-linked
ends-requires-clause-linked g c = linked (numbers_of (g.C.SpanCost.format_of c.args.cost.now)).limit (g.C.SpanCost.cost_of c.args.cost.now) (g.C.SpanCost.count c.args.cost.now) c.in_ok-routes.routes c.in_ok-routes.ensures.routes c.in_ok-routes.ensures.reached

pub cuts_near-requires : goal.cuts_near-requires
cuts_near-requires g c =
    allowed (numbers_of (g.C.SpanCost.format_of c.args.cost.now)).limit (g.C.SpanCost.cost_of c.args.cost.now) (g.C.SpanCost.count c.args.cost.now) c.in_ok-routes.routes c.in_ok-routes.ensures.routes c.in_ok-routes.ensures.reached c.in_ok-ends.field-0.items (chain g (goal.at.cuts_near-requires g c).In_ok-ends)

pub returns-clause-near : goal.returns-clause-near
returns-clause-near g c =
    let limit = (numbers_of (g.C.SpanCost.format_of c.args.cost.now)).limit in
    let cost = g.C.SpanCost.cost_of c.args.cost.now in
    let n = g.C.SpanCost.count c.args.cost.now in
    let most = total limit cost n c.in_ok-routes.routes c.in_ok-routes.ensures.routes c.in_ok-routes.ensures.reached c.in_ok-ends.field-0.items (chain g (goal.at.returns-clause-near g c).In_ok-ends) in
    let said = c.cuts_near.ensures in
    let near : (others : List ℕ) → IsAllowed limit cost n others → 100 * partition_cost cost c.cuts_near.result.ends ≤ 103 * partition_cost cost others =
    (λ others a. omega (arith, most, said.cheaper, said.total, c.in_ok-routes.ensures.near others a)) in
    record { allowed = said.allowed; near = near }
