use Rattle.std.proofs.Common.{◌≡◌, sym, subst, ap, ℕ, max, ◌+◌, ◌*◌, ◌<◌, ◌≤◌, inl, Option, Some, None, List, length, get_or, set, arith}
use Rattle.std.specs.Prelude.{IfSome, unwrap_or}
use Rattle.std.proofs.lemmas.List.{get_or_read}
use Rattle.std.proofs.lemmas.List.Sums.{sum_by-set}
use Rattle.collection_model.specs.FormatNumbers.{part_charge}
use Rattle.part_cost.specs.Bounds.{Cover}
use Rattle.part_cost.specs.Formats.{numbers_of}
use Rattle.part_cost.specs.declared.formats.Format.{Format}
use Rattle.part_cost.specs.Laws.{BoundsRise, BoundsCover}
use Rattle.cost_windows.specs.declared.edge.Edge.{Edge}
use Rattle.cost_windows.specs.WindowBounds.{window_bounds, BoundsFollowRule}
use Rattle.partition_path.specs.Tables.{IsAnswered, cost_to}
use Rattle.partition_path.proofs.Offering.{same-cost}
use Rattle.partition_path.proofs.Windowing.{Windowed, windowed-none, windowed-more, windowed-passed, all-answered, edge-cheap, never-fall, settled-later}
use Rattle.partition_path.proofs.search.try_windows.Given as given
use Rattle.partition_path.proofs.search.try_windows.Goals as goal
use Rattle.partition_path.proofs.search.try_windows.Goals.{After-index_mut, then-looked-looks+else-can_begin_later, else-looked-looks}

-- the window bounds never fall
up : (format : Format) → BoundsRise → BoundsFollowRule → (j k : ℕ) → j ≤ k → k < length (window_bounds format) → get_or (window_bounds format) j 0 ≤ get_or (window_bounds format) k 0
up format rise rule = never-fall (window_bounds format) (rise (part_charge (numbers_of format)) (numbers_of format).limit (window_bounds format) (rule format))

-- and cover what an allowed part costs
cover-of : (format : Format) → BoundsCover → BoundsFollowRule → Cover (part_charge (numbers_of format)) (numbers_of format).limit (window_bounds format)
cover-of format covers rule = covers (part_charge (numbers_of format)) (numbers_of format).limit (window_bounds format) (rule format)

pub loop-k-init : goal.loop-k-init
loop-k-init g c =
    let bounds = window_bounds (g.C.SpanCost.format_of c.args.cost.now) in
    let same : c.bounds-bounds.result.now ≡ bounds = subst (λ (f : Format). c.bounds-bounds.result.now ≡ window_bounds f) c.format.ensures c.bounds-bounds.ensures in
    let first = windowed-none (numbers_of (g.C.SpanCost.format_of c.args.cost.now)).limit (g.C.SpanCost.cost_of c.args.cost.now) bounds (g.C.SpanCost.count c.args.cost.now) c.args.i c.args.routes.now c.args.stands.now.items c.at-edge.result c.at-edge.ensures c.requires.within c.requires.routes c.requires.stands in
    (first, omega arith, omega arith, same, omega arith, omega arith, λ l. subst (λ (e : Edge). IfSome e.next (λ x. x ≤ get_or c.bounds-bounds.result.now 0 0)) (sym c.at-edge.ensures) tt)

pub stretched-moved-requires-clause-window : goal.stretched-moved-requires-clause-window
stretched-moved-requires-clause-window g c =
    let format = g.C.SpanCost.format_of c.args.cost.now in
    let bounds = window_bounds format in
    let k = c.loop-k.k in
    let w = c.loop-k.invariant.0 in
    let same = c.loop-k.invariant.3 in
    let stands = c.loop-k.stands.items in
    let here = same-cost c.args.routes.now c.loop-k.routes c.args.i (w.tried.same c.args.i (omega arith)) in
    let below : k < length bounds = subst (λ (b : List ℕ). k < length b) same c.loop-k-test.true in
    let stood : c.index.result.now ≡ get_or stands k 0 = get_or_read stands k c.index.result.now (omega (arith, below, w.stand.count)) c.index.ensures 0 in
    let bound : get_or c.bounds-bounds.result.now k 0 ≡ get_or bounds k 0 = ap (λ (b : List ℕ). get_or b k 0) same in
    let small = c.bounds_cover.ensures.within (part_charge (numbers_of format)) (numbers_of format).limit bounds (c.bounds_follow_rule.ensures format) in
    let stand : (c.index.result.now ≤ g.C.SpanCost.count c.args.cost.now) × (cost_to c.loop-k.routes c.index.result.now ≤ cost_to c.args.routes.now c.args.i + get_or bounds k 0) =
    subst (λ (x : ℕ). (x ≤ g.C.SpanCost.count c.args.cost.now) × (cost_to c.loop-k.routes x ≤ cost_to c.args.routes.now c.args.i + get_or bounds k 0)) (sym stood) (w.stand.within k below, w.stand.cheap k below) in
    record {
      knows = w.knows;
      next = c.loop-k.invariant.6 c.loop-k-test.true;
      cheap_edge = omega (arith, edge-cheap (numbers_of format).limit (g.C.SpanCost.cost_of c.args.cost.now) bounds (g.C.SpanCost.count c.args.cost.now) c.args.i c.args.routes.now c.loop-k.routes k c.loop-k.edge c.loop-k.stands.items w (omega (arith, c.if-edge-len.true, c.len.ensures)), here);
      stand = stand.0;
      cheap_stand = omega (arith, stand.1, here, bound);
      allowed = omega (arith, small k 0 below, bound);
    }

-- a next part that is covered is under the bound
under : (o : Option ℕ) (bounds : List ℕ) (k : ℕ) → k < length bounds → IfSome o (λ c. k < length bounds → c ≤ get_or bounds k 0) → IfSome o (λ c. c ≤ get_or bounds k 0)
under None bounds k l h = tt
under (Some c) bounds k l h = h l

-- one window more is looked at
more : (g : given.Over) (c : After-index_mut g) → Windowed (numbers_of (g.C.SpanCost.format_of c.args.cost.now)).limit (g.C.SpanCost.cost_of c.args.cost.now) (window_bounds (g.C.SpanCost.format_of c.args.cost.now)) (g.C.SpanCost.count c.args.cost.now) c.args.i c.args.routes.now c.stretched-moved.new.routes
    (c.loop-k.k + 1) c.stretched-moved.result.edge (set c.loop-k.stands.items c.loop-k.k c.stretched-moved.result.stand)
more g c =
    let format = g.C.SpanCost.format_of c.args.cost.now in
    let bounds = window_bounds format in
    let cost = g.C.SpanCost.cost_of c.args.cost.now in
    let n = g.C.SpanCost.count c.args.cost.now in
    let k = c.loop-k.k in
    let t = c.loop-k.routes in
    let new = c.stretched-moved.new.routes in
    let i = c.args.i in
    let same = c.loop-k.invariant.3 in
    let said = c.stretched-moved.ensures in
    let moved = c.stretched-moved.result in
    let end = moved.edge.end in
    let below : k < length bounds = subst (λ (b : List ℕ). k < length b) same c.loop-k-test.true in
    let cheap : 100 * cost_to new end ≤ 100 * cost_to t i + max (100 * get_or bounds k 0) (103 * unwrap_or c.loop-k.edge.next 0) = subst (λ (b : List ℕ). 100 * cost_to new end ≤ 100 * cost_to t i + max (100 * get_or b k 0) (103 * unwrap_or c.loop-k.edge.next 0)) same said.cheap in
    let stand : (moved.stand ≤ n) × (cost_to new moved.stand ≤ cost_to t i + get_or bounds k 0) = subst (λ (b : List ℕ). (moved.stand ≤ n) × (cost_to new moved.stand ≤ cost_to t i + get_or b k 0)) same said.stand in
    let over : end < n → get_or bounds k 0 < cost i (end + 1) = subst (λ (b : List ℕ). end < n → get_or b k 0 < cost i (end + 1)) same said.over in
    windowed-more (numbers_of format).limit cost bounds n i c.args.routes.now (up format c.bounds_cover.ensures.rise c.bounds_follow_rule.ensures) _ (cover-of format c.bounds_cover.ensures.cover c.bounds_follow_rule.ensures) (g.met.C.SpanCost.monotone c.args.cost.now) (g.met.C.SpanCost.at_least_charge c.args.cost.now)
    t k c.loop-k.edge c.loop-k.stands.items c.loop-k.invariant.0 below new moved.edge moved.stand said.tried said.knows cheap stand said.reaches over said.known

pub returns-then-can_begin_later-clause-tried : goal.returns-then-can_begin_later-clause-tried
returns-then-can_begin_later-clause-tried g c = (more g (goal.at.returns-then-can_begin_later-clause-tried g c).After-index_mut).tried

pub returns-then-can_begin_later-clause-settled : goal.returns-then-can_begin_later-clause-settled
returns-then-can_begin_later-clause-settled g c =
    let format = g.C.SpanCost.format_of c.args.cost.now in
    let cost = g.C.SpanCost.cost_of c.args.cost.now in
    let n = g.C.SpanCost.count c.args.cost.now in
    let i = c.args.i in
    let t = c.stretched-moved.new.routes in
    let end = c.stretched-moved.result.edge.end in
    let m = more g (goal.at.returns-then-can_begin_later-clause-settled g c).After-index_mut in
    let here = same-cost c.args.routes.now t i (m.tried.same i (omega arith)) in
    let later = c.can_begin_later.ensures.later c.if-can_begin_later.true in
    let adds = c.requires.looks (omega (arith, c.if-looked-looks.true)) in
    settled-later (numbers_of format).limit (part_charge (numbers_of format)) cost n i t end adds later.0 later.1
    (λ e a b. subst (λ (x : ℕ). IsAnswered (numbers_of format).limit cost i x t e) (sym here) (m.answered e a (omega (arith, b))))

pub returns-then-can_begin_later-clause-stands : goal.returns-then-can_begin_later-clause-stands
returns-then-can_begin_later-clause-stands g c = (more g (goal.at.returns-then-can_begin_later-clause-stands g c).After-index_mut).stand

pub loop-k-preserved : goal.loop-k-preserved
loop-k-preserved g c =
    let format = g.C.SpanCost.format_of c.args.cost.now in
    let bounds = window_bounds format in
    let k = c.loop-k.k in
    let stands = c.loop-k.stands.items in
    let w = c.loop-k.invariant.0 in
    let same = c.loop-k.invariant.3 in
    let said = c.stretched-moved.ensures in
    let after = c.if-looked-looks in
    let seen : (c.stretched-moved.new.steps ≤ after.steps) × (after.steps + c.loop-k.looked ≤ c.stretched-moved.new.steps + after.looked) × (after.looked ≤ c.args.looks) = elim after.branch [
      | then-looked-looks+else-can_begin_later w ↦ let one = w.can_begin_later.ensures.counted in (omega (arith, w.steps-is, one.0), omega (arith, w.steps-is, w.looked-is, one.1), omega (arith, w.looked-is, w.if-looked-looks.true))
      | else-looked-looks w ↦ (omega (arith, w.steps-is), omega (arith, w.steps-is, w.looked-is), omega (arith, w.looked-is, c.loop-k.invariant.5))
    ] in
    let longer = c.stretched-moved.result.edge in
    let stand = c.stretched-moved.result.stand in
    let next = c.covering-k.ensures in
    let m = more g (goal.at.loop-k-preserved g c).After-index_mut in
    let below : k < length bounds = subst (λ (b : List ℕ). k < length b) same c.loop-k-test.true in
    let stood : c.index.result.now ≡ get_or stands k 0 = get_or_read stands k c.index.result.now (omega (arith, below, w.stand.count)) c.index.ensures 0 in
    let moved = sum_by-set (λ (x : ℕ). x) stands k stand 0 (omega (arith, below, w.stand.count)) in
    let passed : IfSome longer.next (λ x. (m : ℕ) → k + 1 ≤ m → m < c.covering-k.result → get_or bounds m 0 < x) = subst (λ (b : List ℕ). IfSome longer.next (λ x. (m : ℕ) → k + 1 ≤ m → m < c.covering-k.result → get_or b m 0 < x)) same next.passed in (
      windowed-passed _ _ _ _ _ _ _ (k + 1) longer _ m c.covering-k.result next.forward said.known passed,
      omega (arith, said.counted.1, seen.1, stood, moved, c.loop-k.invariant.1, next.forward),
      next.within,
      same,
      omega (arith, said.counted.0, seen.0, c.loop-k.invariant.4),
      seen.2,
      λ l. under longer.next c.bounds-bounds.result.now c.covering-k.result l next.covers,
    )

pub returns-after-loop-k-clause-settled : goal.returns-after-loop-k-clause-settled
returns-after-loop-k-clause-settled g c =
    let format = g.C.SpanCost.format_of c.args.cost.now in
    let i = c.args.i in
    let w = c.loop-k.invariant.0 in
    let here = same-cost c.args.routes.now c.loop-k.routes i (w.tried.same i (omega arith)) in
    let ended : length (window_bounds format) ≤ c.loop-k.k = subst (λ (b : List ℕ). length b ≤ c.loop-k.k) c.loop-k.invariant.3 c.loop-k-test.false in
    let answered = all-answered (numbers_of format).limit (g.C.SpanCost.cost_of c.args.cost.now) (window_bounds format) (g.C.SpanCost.count c.args.cost.now) i c.args.routes.now (up format c.bounds_cover.ensures.rise c.bounds_follow_rule.ensures) _
    (cover-of format c.bounds_cover.ensures.cover c.bounds_follow_rule.ensures) (g.met.C.SpanCost.monotone c.args.cost.now) (g.met.C.SpanCost.at_least_charge c.args.cost.now) c.loop-k.routes c.loop-k.k c.loop-k.edge c.loop-k.stands.items w (λ l. absurd (omega (arith, l, ended))) in
    λ e a b allowed. inl (subst (λ (x : ℕ). 100 * cost_to c.loop-k.routes e ≤ 100 * x + 103 * g.C.SpanCost.cost_of c.args.cost.now i e) (sym here) (answered e a b allowed))
