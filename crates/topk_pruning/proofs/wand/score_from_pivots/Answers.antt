use Rattle.std.proofs.Common.{◌≡◌, sym, ap, ◌∙◌, subst, ℕ, ◌<◌, ◌^◌, false, List, map, length, Some, None, arith}
use Rattle.std.specs.List.{All}
use Rattle.std.proofs.lemmas.List.{length-map}
use Rattle.std.proofs.lemmas.Result.{IfOk-weaker}
use Rattle.collection_model.specs.Collection.{Posting}
use Rattle.scan_plans.specs.Matches.{AreBelow, in_any}
use Rattle.scan_plans.specs.IsTop.{IsTop, IsTopFrom}
use Rattle.scan_plans.specs.Skips.{IsBarred}
use Rattle.topk_pruning.specs.declared.term.Term.{Term}
use Rattle.topk_pruning.specs.declared.order.Standing.{Standing}
use Rattle.topk_pruning.specs.Held.{RankingFrom}
use Rattle.topk_pruning.specs.Terms.{AreTerms, AreQueryTerms, AreAllTerms, bounds, beats}
use Rattle.topk_pruning.specs.Windows.{IsReady}
use Rattle.topk_pruning.specs.Order.{terms_at, IsOrder, IsPivot}
use Rattle.topk_pruning.proofs.Moves.{later-passed}
use Rattle.topk_pruning.proofs.Scores.{all-terms}
use Rattle.topk_pruning.proofs.Orders.{all-again, all-of, order-later}
use Rattle.topk_pruning.proofs.Bars.{bars-at}
use Rattle.topk_pruning.proofs.Pivots.{caught-order, standing-are, pivot-step, pivot-end}
use Rattle.topk_pruning.proofs.Tops.{IsStep, next-step, follows-same, last-step, scores-light, within-all}
use Rattle.topk_pruning.proofs.Windows.{query-terms}
use Rattle.topk_pruning.proofs.wand.score_from_pivots.Given as given
use Rattle.topk_pruning.proofs.wand.score_from_pivots.Goals as goal
use Rattle.topk_pruning.proofs.wand.score_from_pivots.Goals.{In_ok-terms, In_ok-stand_from, After-bar, In-Some, In_default}

-- the terms are those of the query
known : (g : given.Over) (c : In_ok-terms g) → AreQueryTerms (map g.C.DocCursor.list c.args.cursors.now) c.in_ok-terms.terms.items × AreAllTerms (map g.C.DocCursor.list c.args.cursors.now) c.args.weights.now c.in_ok-terms.terms.items
known g c =
    let lists : List (List Posting) = map g.C.DocCursor.list c.args.cursors.now in
    let each : length c.args.weights.now ≡ length lists = omega (arith, c.requires.each, length-map c.args.cursors.now g.C.DocCursor.list) in (
      query-terms lists c.args.weights.now c.in_ok-terms.terms.items each c.requires.light c.in_ok-terms.ensures.all c.in_ok-terms.ensures.light,
      all-terms lists c.args.weights.now c.in_ok-terms.terms.items each c.in_ok-terms.ensures.all,
    )

-- the order once the cursors caught up
caught : (g : given.Over) (c : In_ok-stand_from g) → IsOrder (map g.C.DocCursor.list c.args.cursors.now) c.in_ok-terms.terms.items c.loop-scorer.from c.stand_from.new.order.items
caught g c = caught-order (map g.C.DocCursor.list c.loop-scorer.cursors) (map g.C.DocCursor.list c.args.cursors.now) c.in_ok-terms.terms.items c.loop-scorer.from c.loop-scorer.order.items c.stand_from.new.order.items c.loop-scorer.invariant.lists c.in_ok-stand_from.ensures.order c.loop-scorer.invariant.order

-- its terms, with those whose lists have ended, are all those of the query
in-order : (g : given.Over) (c : In_ok-stand_from g)
    → AreAllTerms (map g.C.DocCursor.list c.args.cursors.now) c.args.weights.now (all-of (map g.C.DocCursor.list c.args.cursors.now) c.in_ok-terms.terms.items c.loop-scorer.from c.stand_from.new.order.items (caught g c))
in-order g c = all-again (map g.C.DocCursor.list c.args.cursors.now) c.args.weights.now c.in_ok-terms.terms.items c.loop-scorer.from c.stand_from.new.order.items (caught g c) (known g (goal.at.In_ok-stand_from g c).In_ok-terms).1

-- a score that does not beat the bar is barred
barred : (g : given.Over) (c : After-bar g) → (s : ℕ) → beats c.bar.result s ≡ false → IsBarred c.common_score-floor.result c.args.wanted.k c.loop-scorer.top.held s
barred g c = bars-at c.bar.result c.loop-scorer.top.floor c.common_score-floor.result c.loop-scorer.top.k c.args.wanted.k c.loop-scorer.top.held c.loop-scorer.invariant.floor c.loop-scorer.invariant.k c.bar.ensures

pub order_of-requires-clause-terms : goal.order_of-requires-clause-terms
order_of-requires-clause-terms g c =
    subst (AreTerms (map g.C.DocCursor.list c.args.cursors.now)) (sym c.deref-2.ensures.value) (known g (goal.at.order_of-requires-clause-terms g c).In_ok-terms).0.terms_are

pub common_score-floor-requires-clause-within : goal.common_score-floor-requires-clause-within
common_score-floor-requires-clause-within g c =
    subst (λ (ts : List Term). All (λ t. t.list < length c.args.cursors.now) ts) (sym c.deref.ensures.value)
    (within-all g.C.DocCursor.list c.args.cursors.now c.in_ok-terms.terms.items (known g (goal.at.common_score-floor-requires-clause-within g c).In_ok-terms).0.terms_are)

pub loop-scorer-init : goal.loop-scorer-init
loop-scorer-init g c =
    record {
      lists = c.order_of.ensures.lists;
      passed = c.order_of.ensures.passed;
      in_range = omega arith;
      k = ap (λ (t : RankingFrom). t.k) c.in_ok-top.ensures;
      n = ap (λ (t : RankingFrom). t.n) c.in_ok-top.ensures;
      floor = ap (λ (t : RankingFrom). t.floor) c.in_ok-top.ensures;
      held = subst (λ (h : List (ℕ × ℕ)). IsTopFrom c.common_score-floor.result 0 (map g.C.DocCursor.list c.args.cursors.now) c.args.weights.now c.args.wanted.k h) (sym (ap (λ (t : RankingFrom). t.held) c.in_ok-top.ensures)) (c.top_list_grows.ensures.none c.common_score-floor.result (map g.C.DocCursor.list c.args.cursors.now) c.args.weights.now c.args.wanted.k);
      order = subst (λ (ts : List Term). IsOrder (map g.C.DocCursor.list c.args.cursors.now) ts 0 c.in_ok-order.order.items) c.deref-2.ensures.value c.in_ok-order.ensures.order;
      falling = c.in_ok-order.ensures.falling;
      ready = subst (λ (count : ℕ). IsReady count c.args.wanted.n c.in_ok-scorer.scorer) (ap length c.deref-3.ensures.value) c.in_ok-scorer.ensures;
    }

pub stand_from-requires-clause-within : goal.stand_from-requires-clause-within
stand_from-requires-clause-within g c =
    let standing = standing-are (map g.C.DocCursor.list c.args.cursors.now) c.in_ok-terms.terms.items c.loop-scorer.from c.loop-scorer.order.items c.loop-scorer.invariant.order (known g (goal.at.stand_from-requires-clause-within g c).In_ok-terms).0.terms_are in
    let l = length-map c.loop-scorer.cursors g.C.DocCursor.list in
    let same = ap length c.loop-scorer.invariant.lists in
    λ k t inside. let h = standing.within k t inside in omega arith

pub stand_from-requires-clause-passed : goal.stand_from-requires-clause-passed
stand_from-requires-clause-passed g c = c.loop-scorer.invariant.passed

pub stand_from-requires-clause-falling : goal.stand_from-requires-clause-falling
stand_from-requires-clause-falling g c = c.loop-scorer.invariant.falling

pub pivot-requires : goal.pivot-requires
pivot-requires g c =
    let light = (standing-are (map g.C.DocCursor.list c.args.cursors.now) c.in_ok-terms.terms.items c.loop-scorer.from c.stand_from.new.order.items (caught g (goal.at.pivot-requires g c).In_ok-stand_from) (known g (goal.at.pivot-requires g c).In_ok-terms).0.terms_are).light in
    let same = ap (λ (o : List Standing). bounds (terms_at o)) c.deref-in-loop-scorer.ensures.value in
    record { light = omega arith }

-- what is known at a pivot
pivot-known : (g : given.Over) (c : In-Some g) → IsStep c.args.wanted.n (map g.C.DocCursor.list c.args.cursors.now) c.args.weights.now c.common_score-floor.result c.args.wanted.k c.loop-scorer.from c.in-Some.first c.loop-scorer.top.held
pivot-known g c =
    let lists : List (List Posting) = map g.C.DocCursor.list c.args.cursors.now in
    let at = goal.at.In-Some g c in
    let order : List Standing = c.stand_from.new.order.items in
    let pivot : IsPivot order c.bar.result (Some c.in-Some.first) = subst (λ (o : List Standing). IsPivot o c.bar.result (Some c.in-Some.first)) c.deref-in-loop-scorer.ensures.value c.in-Some.ensures in
    let grows = c.top_list_grows.ensures in
    next-step grows.skipped grows.below grows.in_range c.args.wanted.n lists c.args.weights.now (all-of lists c.in_ok-terms.terms.items c.loop-scorer.from order (caught g at.In_ok-stand_from)) c.common_score-floor.result c.args.wanted.k c.loop-scorer.from c.in-Some.first c.loop-scorer.top.held
    c.requires.in_range (in-order g at.In_ok-stand_from) c.loop-scorer.invariant.held
    (pivot-step lists c.in_ok-terms.terms.items c.common_score-floor.result c.args.wanted.k c.loop-scorer.from c.in-Some.first order c.bar.result c.loop-scorer.top.held (known g at.In_ok-terms).0.terms_are (caught g at.In_ok-stand_from) c.in_ok-stand_from.ensures.falling c.in_ok-stand_from.ensures.caught_up
    (barred g at.After-bar) pivot)

-- what is held where there is none
top-of_none : (g : given.Over) (c : In_default g) → IsTop c.args.wanted.n (map g.C.DocCursor.list c.args.cursors.now) c.args.weights.now c.args.wanted.k c.loop-scorer.top.held
top-of_none g c =
    let lists : List (List Posting) = map g.C.DocCursor.list c.args.cursors.now in
    let at = goal.at.In_default g c in
    let order : List Standing = c.stand_from.new.order.items in
    let pivot : IsPivot order c.bar.result None = subst (λ (o : List Standing). IsPivot o c.bar.result None) c.deref-in-loop-scorer.ensures.value c.in_default.ensures in
    let top = last-step c.top_list_grows.ensures.skipped c.args.wanted.n lists c.args.weights.now (all-of lists c.in_ok-terms.terms.items c.loop-scorer.from order (caught g at.In_ok-stand_from)) c.common_score-floor.result c.args.wanted.k c.loop-scorer.from c.loop-scorer.top.held
    (in-order g at.In_ok-stand_from) c.loop-scorer.invariant.in_range c.loop-scorer.invariant.held
    (pivot-end lists c.in_ok-terms.terms.items c.common_score-floor.result c.args.wanted.k c.loop-scorer.from order c.bar.result c.loop-scorer.top.held (known g at.In_ok-terms).0.terms_are (caught g at.In_ok-stand_from) (barred g at.After-bar) pivot) in
    c.top_list_has_a_floor.ensures c.common_score-floor.result c.args.wanted.n lists c.args.weights.now c.args.wanted.k c.loop-scorer.top.held
    (c.common_score-floor.ensures c.args.wanted.n c.args.weights.now c.requires.in_range (subst (AreAllTerms lists c.args.weights.now) (sym c.deref.ensures.value) (known g at.In_ok-terms).1)) top

pub returns-in_default-clause-first : goal.returns-in_default-clause-first
returns-in_default-clause-first g c =
    let top = top-of_none g (goal.at.returns-in_default-clause-first g c).In_default in
    IfOk-weaker c.into_list.result (λ r. r.items ≡ c.loop-scorer.top.held) (λ r. IsTop c.args.wanted.n (map g.C.DocCursor.list c.args.cursors.now) c.args.weights.now c.args.wanted.k r.items)
    (λ r is. subst (IsTop c.args.wanted.n (map g.C.DocCursor.list c.args.cursors.now) c.args.weights.now c.args.wanted.k) (sym is) top) c.into_list.ensures

pub returns-in_default-clause-bound : goal.returns-in_default-clause-bound
returns-in_default-clause-bound g c =
    let is = known g (goal.at.returns-in_default-clause-bound g c).In_ok-terms in
    let light = scores-light (in_any c.args.wanted.n (map g.C.DocCursor.list c.args.cursors.now)) (map g.C.DocCursor.list c.args.cursors.now) c.args.weights.now c.in_ok-terms.terms.items c.args.wanted.k c.loop-scorer.top.held is.1 is.0.terms_are (top-of_none g (goal.at.returns-in_default-clause-bound g c).In_default) in
    IfOk-weaker c.into_list.result (λ r. r.items ≡ c.loop-scorer.top.held) (λ r. All (λ e. e.1 < 2 ^ 58) r.items) (λ r is. subst (λ (h : List (ℕ × ℕ)). All (λ e. e.1 < 2 ^ 58) h) (sym is) light) c.into_list.ensures

pub score_from-from-requires-clause-terms : goal.score_from-from-requires-clause-terms
score_from-from-requires-clause-terms g c =
    subst (λ (ls : List (List Posting)). AreQueryTerms ls c.deref-in-loop-scorer-2.result.now) (sym (c.stand_from.ensures.lists ∙ c.loop-scorer.invariant.lists))
    (subst (AreQueryTerms (map g.C.DocCursor.list c.args.cursors.now)) (sym c.deref-in-loop-scorer-2.ensures.value) (known g (goal.at.score_from-from-requires-clause-terms g c).In_ok-terms).0)

pub score_from-from-requires-clause-passed : goal.score_from-from-requires-clause-passed
score_from-from-requires-clause-passed g c =
    let known = pivot-known g (goal.at.score_from-from-requires-clause-passed g c).In-Some in
    later-passed g.C.DocCursor.list g.C.DocCursor.place c.stand_from.new.cursors c.loop-scorer.from c.in-Some.first known.later c.stand_from.ensures.passed

pub score_from-from-requires-clause-search : goal.score_from-from-requires-clause-search
score_from-from-requires-clause-search g c =
    let step = pivot-known g (goal.at.score_from-from-requires-clause-search g c).In-Some in
    record {
      below = subst (AreBelow c.loop-scorer.top.n) (sym (c.stand_from.ensures.lists ∙ c.loop-scorer.invariant.lists)) (subst (λ (n : ℕ). AreBelow n (map g.C.DocCursor.list c.args.cursors.now)) (sym c.loop-scorer.invariant.n) c.requires.in_range);
      narrow = omega (arith, c.loop-scorer.invariant.n, c.loop-scorer.invariant.ready.narrow);
      in_range = omega (arith, step.in_range, c.loop-scorer.invariant.n);
      above = step.above;
    }

pub score_from-from-requires-clause-ready : goal.score_from-from-requires-clause-ready
score_from-from-requires-clause-ready g c =
    subst (λ (n : ℕ). IsReady (length c.deref-in-loop-scorer-2.result.now) n c.loop-scorer.scorer) (sym c.loop-scorer.invariant.n)
    (subst (λ (count : ℕ). IsReady count c.args.wanted.n c.loop-scorer.scorer) (sym (ap length c.deref-in-loop-scorer-2.ensures.value)) c.loop-scorer.invariant.ready)

pub loop-scorer-smaller : goal.loop-scorer-smaller
loop-scorer-smaller g c =
    let known = pivot-known g (goal.at.loop-scorer-smaller g c).In-Some in
    omega (arith, known.later, c.score_from-from.ensures.between.0, c.score_from-from.ensures.between.1, c.loop-scorer.invariant.n, c.loop-scorer.invariant.ready.narrow)

pub loop-scorer-preserved : goal.loop-scorer-preserved
loop-scorer-preserved g c =
    let so_far = c.loop-scorer.invariant in
    let step = pivot-known g (goal.at.loop-scorer-preserved g c).In-Some in
    let scored = c.score_from-from.ensures in
    record {
      lists = scored.lists ∙ c.stand_from.ensures.lists ∙ so_far.lists;
      passed = scored.passed;
      in_range = omega (arith, scored.between.1, so_far.n);
      ready = subst (λ (n : ℕ). IsReady (length c.in_ok-terms.terms.items) n c.score_from-from.new.self) so_far.n
          (subst (λ (count : ℕ). IsReady count c.loop-scorer.top.n c.score_from-from.new.self) (ap length c.deref-in-loop-scorer-2.ensures.value) scored.ready);
      k = scored.searched.k ∙ so_far.k;
      n = scored.searched.n ∙ so_far.n;
      floor = scored.searched.floor ∙ so_far.floor;
      held = follows-same (map g.C.DocCursor.list c.stand_from.new.cursors) (map g.C.DocCursor.list c.args.cursors.now) c.deref-in-loop-scorer-2.result.now c.in_ok-terms.terms.items c.loop-scorer.top.floor c.common_score-floor.result c.loop-scorer.top.k c.args.wanted.k
          c.in-Some.first c.score_from-from.result c.loop-scorer.top.held c.score_from-from.new.top.held (c.stand_from.ensures.lists ∙ so_far.lists) c.deref-in-loop-scorer-2.ensures.value so_far.floor so_far.k scored.searched.held
          c.args.weights.now (known g (goal.at.loop-scorer-preserved g c).In_ok-terms).1 step.top;
      order = order-later (map g.C.DocCursor.list c.args.cursors.now) c.in_ok-terms.terms.items c.loop-scorer.from c.score_from-from.result c.stand_from.new.order.items (omega (arith, step.later, scored.between.0)) (caught g (goal.at.loop-scorer-preserved g c).In_ok-stand_from);
      falling = c.in_ok-stand_from.ensures.falling;
    }
