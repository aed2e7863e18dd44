use Rattle.std.proofs.Common.{◌+◌, ◌*◌, ◌<◌, ◌≤◌, arith}
use Rattle.part_cost.specs.Formats.{numbers_of}
use Rattle.cost_windows.specs.WindowBounds.{window_bounds}
use Rattle.partition_path.specs.Tables.{IsReached, cost_to, unreached}
use Rattle.partition_path.proofs.Shifting.{limit-is-small}
use Rattle.partition_path.proofs.Windowing.{room_within}
use Rattle.partition_path.proofs.Searching.{searched-passed, searched-next, last-near, last-reached, few-costs}
use Rattle.partition_path.proofs.search.routes_found.Goals.{then-cost, else-cost}
use Rattle.partition_path.proofs.search.routes_found.Given as given
use Rattle.partition_path.proofs.search.routes_found.Goals as goal
use Rattle.partition_path.proofs.search.routes_found.Goals.{Then-cost}

-- a route leads to a place that costs less than the next
reached : (g : given.Over) (c : Then-cost g) → IsReached c.loop-i.routes c.loop-i.i
reached g c = omega (arith, c.if-cost.true, c.cost.ensures, c.cost-in-loop-i.type_inv)

-- it leaves room for a part within the limit
room : (g : given.Over) (c : Then-cost g) → cost_to c.loop-i.routes c.loop-i.i + 2 * (numbers_of (g.C.SpanCost.format_of c.args.cost.now)).limit < unreached
room g c =
    let below : c.loop-i.i < g.C.SpanCost.count c.args.cost.now = omega (arith, c.loop-i-test.true, c.len-count.ensures) in
    room_within _ _ c.loop-i.i (cost_to c.loop-i.routes c.loop-i.i) (c.formats_have_room.ensures (g.C.SpanCost.format_of c.args.cost.now)).small (g.met.C.SpanCost.few c.args.cost.now) below
    (c.loop-i.invariant.routes.small c.loop-i.i (omega (arith, below)) (reached g c))

pub try_windows-requires-clause-room : goal.try_windows-requires-clause-room
try_windows-requires-clause-room g c = room g (goal.at.try_windows-requires-clause-room g c).Then-cost

pub loop-i-preserved : goal.loop-i-preserved
loop-i-preserved g c =
    let format = g.C.SpanCost.format_of c.args.cost.now in
    let limit = (numbers_of format).limit in
    let bounds = window_bounds format in
    let cost = g.C.SpanCost.cost_of c.args.cost.now in
    let n = g.C.SpanCost.count c.args.cost.now in
    let i = c.loop-i.i in
    let t = c.loop-i.routes in
    let stands = c.loop-i.stands.items in
    let before = c.args.steps.now in
    let middle = c.loop-i.steps in
    let below : i < n = omega (arith, c.loop-i-test.true, c.len-count.ensures) in
    elim c.if-cost.branch [
      | then-cost w ↦
          let said = w.try_windows.ensures in
          let more = searched-next limit cost bounds c.args.looks n i before middle t stands c.loop-i.invariant below w.try_windows.new.steps w.try_windows.new.routes w.try_windows.new.stands.items said.tried said.settled said.stands said.counted.0 (omega (arith, said.counted.1)) in
          rw (w.steps-is, w.routes-is, w.stands-is) more
      | else-cost w ↦
          let flat : cost_to t (i + 1) ≤ cost_to t i = omega (arith, w.if-cost.false, c.cost.ensures, c.cost-in-loop-i.ensures) in
          let more = searched-passed limit cost bounds c.args.looks n i before middle t stands c.loop-i.invariant below (g.met.C.SpanCost.monotone c.args.cost.now) flat in
          rw (w.steps-is, w.routes-is, w.stands-is) more
    ]

pub returns-clause-reached : goal.returns-clause-reached
returns-clause-reached g c =
    last-reached _ _ _ _ _ c.loop-i.i c.args.steps.now c.loop-i.steps c.loop-i.routes c.loop-i.stands.items c.loop-i.invariant (omega (arith, c.loop-i-test.false, c.len-count.ensures, c.loop-i.auto.i-end))
    (g.met.C.SpanCost.monotone c.args.cost.now) (omega (arith, limit-is-small (g.C.SpanCost.format_of c.args.cost.now))) (g.met.C.SpanCost.few c.args.cost.now) (g.met.C.SpanCost.one_within_limit c.args.cost.now)

pub returns-clause-near : goal.returns-clause-near
returns-clause-near g c =
    last-near _ _ _ _ _ c.loop-i.i c.args.steps.now c.loop-i.steps c.loop-i.routes c.loop-i.stands.items c.loop-i.invariant (omega (arith, c.loop-i-test.false, c.len-count.ensures, c.loop-i.auto.i-end))
    (g.met.C.SpanCost.monotone c.args.cost.now) (omega (arith, limit-is-small (g.C.SpanCost.format_of c.args.cost.now))) (g.met.C.SpanCost.few c.args.cost.now) (g.met.C.SpanCost.one_within_limit c.args.cost.now)

pub returns-clause-bounded : goal.returns-clause-bounded
returns-clause-bounded g c =
    few-costs _ _ _ _ _ c.loop-i.i c.args.steps.now c.loop-i.steps c.loop-i.routes c.loop-i.stands.items c.loop-i.invariant (omega (arith, c.loop-i-test.false, c.len-count.ensures, c.loop-i.auto.i-end))
