use Rattle.std.proofs.Common.{◌≡◌, refl, ap, ◌∙◌, ◌<◌, ℕ, List, length, get_or, sym, subst, arith}
use Rattle.std.proofs.lemmas.List.{get_or_read}
use Rattle.std.specs.List.Sorted.{IsStrictlyIncreasing}
use Rattle.cost_windows.specs.WindowBounds.{window_bounds}
use Rattle.cost_windows.specs.Windows.{Windows, AreWindows}
use Rattle.cost_windows.proofs.Table.{rising, bounds-rise}
use Rattle.cost_windows.proofs.Moving.{Ended, Moved-more, ended}
use Rattle.cost_windows.proofs.windows.Windows.advance.Given as given
use Rattle.cost_windows.proofs.windows.Windows.advance.Goals.{After-truncate-2, then-loop-moved-test+else-edge-len, else-loop-moved-test}
use Rattle.cost_windows.proofs.windows.Windows.advance.Goals as goal

pub loop-moved-preserved : goal.loop-moved-preserved
loop-moved-preserved g c =
    let cost = g.C.SpanCost.cost_of c.args.cost.now in
    let n = g.C.SpanCost.count c.args.cost.now in
    let k = c.loop-moved.moved in
    let m = c.loop-moved.invariant.0 in
    let same = c.loop-moved.invariant.1 in
    let bounds : List ℕ = c.bounds-bounds.result.now in
    let up : IsStrictlyIncreasing bounds = subst (λ (b : List ℕ). IsStrictlyIncreasing b) (sym same) (bounds-rise c.bounds_cover.ensures.rise c.loop-moved.self-inside.format) in
    let edge = c.stretched-edge.result in
    let said = c.stretched-edge.ensures in
    let new = c.loop-moved.self-inside.positions.items in
    let costs = c.loop-moved.self-inside.costs.items in
    let below : k < length new = omega (arith, c.loop-moved-test.true) in
    let read : c.index.result.now ≡ get_or new k 0 = get_or_read new k c.index.result.now below c.index.ensures 0 in
    let before_end : c.loop-moved.edge.end < n = omega (arith, c.if-edge-len.true, c.len-in-loop-moved.ensures) in
    let more = Moved-more cost n c.args.i bounds (rising bounds up) k c.args.self.now.positions new costs c.loop-moved.edge edge c.args.steps.now c.loop-moved.steps c.stretched-edge.new.steps m below before_end said.longest.knows said.longest.stands said.longest.priced (omega (arith, read, said.longest.reaches)) said.counted (omega (arith, read, said.bounded)) said.asks said.longest.asked said.known in
    (rw c.unwrap_or.ensures more, c.loop-moved.invariant.1, c.loop-moved.invariant.2)

-- the windows once all that are looked at have moved
moved : (g : given.Over) (c : After-truncate-2 g) → Ended (g.C.SpanCost.cost_of c.args.cost.now) (g.C.SpanCost.count c.args.cost.now) c.args.i (window_bounds c.loop-moved.self-inside.format) c.args.self.now.positions c.truncate.new.self.items c.truncate-2.new.self.items c.args.steps.now c.loop-moved.steps
moved g c = ended c.loop-moved.invariant.0 c.loop-moved.invariant.1 (bounds-rise c.bounds_cover.ensures.rise c.loop-moved.self-inside.format) c.requires.within (λ l. elim c.loop-moved-test.branch [
  | then-loop-moved-test+else-edge-len w ↦ omega (arith, w.if-edge-len.false, w.len-in-loop-moved.ensures)
  | else-loop-moved-test w ↦ absurd (omega (arith, l, w.loop-moved-test.false))
]) c.truncate.ensures.items c.truncate-2.ensures.items

pub invariant_of-self : goal.invariant_of-self
invariant_of-self g c = let all = moved g (goal.at.invariant_of-self g c).After-truncate-2 in (all.windows, all.alike)

pub returns-clause-moved : goal.returns-clause-moved
returns-clause-moved g c =
    let all = moved g (goal.at.returns-clause-moved g c).After-truncate-2 in
    record {
      bounds = ap window_bounds c.loop-moved.invariant.2 ∙ ap (λ (w : Windows). w.bounds) c.self.view_is;
      place = refl {a = c.args.i};
      longest = all.longest;
      costs = all.kept;
      forward = all.forward c.requires.same_cost.within;
      distinct = all.distinct;
    }

pub returns-clause-counts : goal.returns-clause-counts
returns-clause-counts g c =
    let all = moved g (goal.at.returns-clause-counts g c).After-truncate-2 in
    let view : length c.args.self.now.positions ≡ length c.args.self.now.bounds = (subst (λ (x : Windows). AreWindows x) c.self.view_is c.self.invariant.0).positions in
    record {
      counted = all.counted;
      bounded = omega (arith, all.by_windows, view);
      by_open = all.by_open;
      by_ends = all.by_ends;
    }
