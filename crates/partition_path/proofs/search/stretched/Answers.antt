use Rattle.std.proofs.Common.{◌≡◌, ◌∙◌, sym, ap, subst, ℕ, ◌+◌, ◌<◌, ◌≤◌, inl, inr, None, arith}
use Rattle.std.proofs.lemmas.Bool.{cases_lt}
use Rattle.part_cost.specs.Formats.{numbers_of}
use Rattle.cost_windows.specs.declared.edge.Edge.{Edge}
use Rattle.partition_path.specs.Tables.{AreTried, cost_to}
use Rattle.partition_path.specs.Trying.{IsWithinReach}
use Rattle.partition_path.proofs.Offering.{offered-end, offered-tried}
use Rattle.partition_path.proofs.Windowing.{some-known, none-some, some-none, later-cheap}
use Rattle.partition_path.proofs.search.stretched.Goals.{then-edge-reached, else-edge-reached}
use Rattle.partition_path.proofs.search.stretched.Given as given
use Rattle.partition_path.proofs.search.stretched.Goals as goal
use Rattle.partition_path.proofs.search.stretched.Goals.{After-lengthened-edge, After-offer}

-- the known route to the place that is looked from is within reach
reached : (g : given.Over) (c : After-lengthened-edge g) → IsWithinReach c.args.window (cost_to c.args.routes.now c.args.i) (cost_to c.args.routes.now c.if-edge-reached.from.end)
reached g c =
    let t = c.args.routes.now in
    let w = c.requires.window in
    let end = c.args.window.edge.end in
    let stand = c.args.window.stand in
    let most = c.cost.result + c.max.result in
    let edge_cheap : cost_to t end ≤ most = omega (arith, w.cheap_edge, c.cost.ensures, c.max.ensures, c.unwrap_or.ensures) in
    let stand_cheap : cost_to t stand ≤ most = omega (arith, w.cheap_stand, c.cost.ensures, c.max.ensures) in
    let later : cost_to t c.max-2.result ≤ most = subst (λ (x : ℕ). cost_to t x ≤ most) (sym c.max-2.ensures) (later-cheap t end stand most edge_cheap stand_cheap) in
    let cheap : cost_to t c.furthest-reached.result ≤ most = c.furthest-reached.ensures.cheap later in
    let within : IsWithinReach c.args.window (cost_to t c.args.i) (cost_to t c.furthest-reached.result) = omega (arith, cheap, c.cost.ensures, c.max.ensures, c.unwrap_or.ensures) in
    let at : c.if-edge-reached.from.end ≡ c.furthest-reached.result = elim c.if-edge-reached.branch [
      | then-edge-reached w ↦ ap (λ (e : Edge). e.end) (w.from-is ∙ w.at-from.ensures)
      | else-edge-reached w ↦ ap (λ (e : Edge). e.end) w.from-is ∙ omega (arith, w.if-edge-reached.false, c.furthest-reached.ensures.forward, c.max-2.ensures)
    ] in
    subst (λ (x : ℕ). IsWithinReach c.args.window (cost_to t c.args.i) (cost_to t x)) (sym at) within

-- the part to the edge costs no more than the bound
affordable : (g : given.Over) (c : After-offer g) → (c.args.i < c.lengthened-edge.result.end) × (c.in-Some.part ≡ g.C.SpanCost.cost_of c.args.cost.now c.args.i c.lengthened-edge.result.end) × (c.in-Some.part ≤ c.args.window.bound)
affordable g c =
    let cost = g.C.SpanCost.cost_of c.args.cost.now in
    let i = c.args.i in
    let part = c.in-Some.part in
    let longer = c.lengthened-edge.result in
    let said = c.lengthened-edge.ensures in
    let from : Edge = c.if-edge-reached.from in
    let known = some-known longer.cost part (λ x. (i < longer.end) × (x ≡ cost i longer.end)) said.knows.known c.in-Some.is in
    let none : from.cost ≡ None = elim c.if-edge-reached.branch [
      | then-edge-reached w ↦ ap (λ (e : Edge). e.cost) (w.from-is ∙ w.at-from.ensures)
      | else-edge-reached w ↦ ap (λ (e : Edge). e.cost) w.from-is
    ] in
    let more : from.end < longer.end = elim (cases_lt from.end longer.end) [
      | inl behind ↦ behind
      | inr at ↦
          let same : longer.cost ≡ from.cost = said.same (omega (arith, at, said.forward)) in
          absurd (none-some part (sym none ∙ sym same ∙ c.in-Some.is))
    ] in
    (known.0, known.1, omega (arith, (said.affordable more).1, known.1))

-- it is offered for its cost
offered : (g : given.Over) (c : After-offer g) → cost_to c.offer.new.self c.lengthened-edge.result.end ≤ cost_to c.args.routes.now c.args.i + c.in-Some.part
offered g c = omega (arith, offered-end c.args.i c.lengthened-edge.result.end (c.cost-2.result + c.in-Some.part) c.args.routes.now c.offer.new.self c.offer.ensures, c.cost-2.ensures)

-- the part that is tried is one from place i
tried : (g : given.Over) (c : After-offer g) → AreTried (numbers_of (g.C.SpanCost.format_of c.args.cost.now)).limit (g.C.SpanCost.cost_of c.args.cost.now) (g.C.SpanCost.count c.args.cost.now) c.args.i c.args.routes.now c.offer.new.self
tried g c =
    let one = affordable g c in
    offered-tried (numbers_of (g.C.SpanCost.format_of c.args.cost.now)).limit (g.C.SpanCost.cost_of c.args.cost.now) (g.C.SpanCost.count c.args.cost.now) c.args.i c.args.routes.now c.offer.new.self c.requires.from.routes c.requires.from.reached c.lengthened-edge.result.end (c.cost-2.result + c.in-Some.part)
    one.0 c.lengthened-edge.ensures.knows.within (omega (arith, one.1, one.2, c.requires.window.allowed)) (omega (arith, c.cost-2.ensures, one.1)) (g.met.C.SpanCost.monotone c.args.cost.now) c.offer.ensures

pub returns-in_default-clause-cheap : goal.returns-in_default-clause-cheap
returns-in_default-clause-cheap g c =
    let said = c.lengthened-edge.ensures in
    let from = c.if-edge-reached.from.end in
    let same : c.lengthened-edge.result.end ≡ from = elim (cases_lt from c.lengthened-edge.result.end) [
      | inl more ↦ absurd (some-none c.lengthened-edge.result.cost (said.affordable more).0 c.in_default.is)
      | inr at ↦ omega (arith, at, said.forward)
    ] in
    subst (λ (x : ℕ). IsWithinReach c.args.window (cost_to c.args.routes.now c.args.i) (cost_to c.args.routes.now x)) (sym same) (reached g (goal.at.returns-in_default-clause-cheap g c).After-lengthened-edge)

pub returns-clause-tried : goal.returns-clause-tried
returns-clause-tried g c = tried g (goal.at.returns-clause-tried g c).After-offer

pub returns-clause-cheap : goal.returns-clause-cheap
returns-clause-cheap g c =
    let at = (goal.at.returns-clause-cheap g c).After-offer in
    omega (arith, offered g at, (affordable g at).2)

pub returns-clause-stand : goal.returns-clause-stand
returns-clause-stand g c =
    let at = (goal.at.returns-clause-stand g c).After-offer in
    (c.lengthened-edge.ensures.knows.within, omega (arith, offered g at, (affordable g at).2))
