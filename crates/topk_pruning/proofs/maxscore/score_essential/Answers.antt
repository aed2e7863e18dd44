use Rattle.std.proofs.Common.{◌≡◌, sym, ap, ◌∙◌, subst, ℕ, ◌<◌, ◌≤◌, ◌^◌, List, map, length, Option, Some, None, arith}
use Rattle.std.specs.List.{All}
use Rattle.std.proofs.lemmas.List.{length-map}
use Rattle.std.proofs.lemmas.Result.{IfOk-weaker}
use Rattle.collection_model.specs.Collection.{Posting}
use Rattle.scan_plans.specs.Matches.{AreBelow, in_any}
use Rattle.scan_plans.specs.IsTop.{IsTop}
use Rattle.topk_pruning.specs.declared.term.Term.{Term}
use Rattle.topk_pruning.specs.Terms.{AreQueryTerms, AreTerms, AreAllTerms, IsNextDoc}
use Rattle.topk_pruning.specs.Windows.{IsReady}
use Rattle.topk_pruning.proofs.Scores.{all-terms}
use Rattle.topk_pruning.proofs.Tops.{IsStep, next-step, next-same, follows-same, last-step, scores-light, within-all}
use Rattle.topk_pruning.proofs.Windows.{query-terms, terms-weighty}
use Rattle.topk_pruning.proofs.maxscore.score_essential.Given as given
use Rattle.topk_pruning.proofs.maxscore.score_essential.Goals as goal
use Rattle.topk_pruning.proofs.maxscore.score_essential.Goals.{In_ok-terms, After-deref-in-loop-first, In-Some, In_default}

-- there is a weight for each list
each : (g : given.Over) (c : In_ok-terms g) → length c.args.weights.now ≡ length (map g.C.DocCursor.list c.args.cursors.now)
each g c = omega (arith, c.requires.each, length-map c.args.cursors.now g.C.DocCursor.list)

-- the terms are those of the query
known : (g : given.Over) (c : In_ok-terms g) → AreQueryTerms (map g.C.DocCursor.list c.args.cursors.now) c.in_ok-terms.terms.items × AreAllTerms (map g.C.DocCursor.list c.args.cursors.now) c.args.weights.now c.in_ok-terms.terms.items
known g c = (
  query-terms (map g.C.DocCursor.list c.args.cursors.now) c.args.weights.now c.in_ok-terms.terms.items (each g c) c.requires.light c.in_ok-terms.ensures.all c.in_ok-terms.ensures.light,
  all-terms (map g.C.DocCursor.list c.args.cursors.now) c.args.weights.now c.in_ok-terms.terms.items (each g c) c.in_ok-terms.ensures.all,
)

-- the next candidate is the next document of the query that can be held
next-is : (g : given.Over) (c : After-deref-in-loop-first g) (o : Option ℕ) → IsNextDoc (map g.C.DocCursor.list c.loop-first.cursors) c.deref-in-loop-first.result.now c.loop-first.top.floor c.loop-first.top.k c.loop-first.top.held c.loop-first.from o
    → IsNextDoc (map g.C.DocCursor.list c.args.cursors.now) c.in_ok-terms.terms.items c.common_score-floor.result c.args.k c.loop-first.top.held c.loop-first.from o
next-is g c o next =
    next-same (map g.C.DocCursor.list c.loop-first.cursors) (map g.C.DocCursor.list c.args.cursors.now) c.deref-in-loop-first.result.now c.in_ok-terms.terms.items c.loop-first.top.floor c.common_score-floor.result c.loop-first.top.k c.args.k c.loop-first.from c.loop-first.top.held o
    c.loop-first.invariant.lists c.deref-in-loop-first.ensures.value c.loop-first.invariant.floor c.loop-first.invariant.k next

-- what is known of the first document of a window
first-step : (g : given.Over) (c : In-Some g) → IsStep c.args.n (map g.C.DocCursor.list c.args.cursors.now) c.args.weights.now c.common_score-floor.result c.args.k c.loop-first.from c.in-Some.first c.loop-first.top.held
first-step g c =
    let grows = c.top_list_grows.ensures in
    next-step grows.skipped grows.below grows.in_range c.args.n (map g.C.DocCursor.list c.args.cursors.now) c.args.weights.now c.in_ok-terms.terms.items c.common_score-floor.result c.args.k c.loop-first.from c.in-Some.first c.loop-first.top.held
    c.requires.in_range (known g (goal.at.In-Some g c).In_ok-terms).1 c.loop-first.invariant.held (next-is g (goal.at.In-Some g c).After-deref-in-loop-first (Some c.in-Some.first) c.in-Some.ensures.next)

-- what is held where no list has a further document
top-of_none : (g : given.Over) (c : In_default g) → IsTop c.args.n (map g.C.DocCursor.list c.args.cursors.now) c.args.weights.now c.args.k c.loop-first.top.held
top-of_none g c =
    let lists : List (List Posting) = map g.C.DocCursor.list c.args.cursors.now in
    let all = (known g (goal.at.In_default g c).In_ok-terms).1 in
    let next = next-is g (goal.at.In_default g c).After-deref-in-loop-first None c.in_default.ensures.next in
    c.top_list_has_a_floor.ensures c.common_score-floor.result c.args.n lists c.args.weights.now c.args.k c.loop-first.top.held (c.common_score-floor.ensures c.args.n c.args.weights.now c.requires.in_range (subst (AreAllTerms lists c.args.weights.now) (sym c.deref.ensures.value) all))
    (last-step c.top_list_grows.ensures.skipped c.args.n lists c.args.weights.now c.in_ok-terms.terms.items c.common_score-floor.result c.args.k c.loop-first.from c.loop-first.top.held all c.loop-first.invariant.in_range c.loop-first.invariant.held next)

pub common_score-floor-requires-clause-within : goal.common_score-floor-requires-clause-within
common_score-floor-requires-clause-within g c =
    subst (λ (ts : List Term). All (λ t. t.list < length c.args.cursors.now) ts) (sym c.deref.ensures.value)
    (within-all g.C.DocCursor.list c.args.cursors.now c.in_ok-terms.terms.items (known g (goal.at.common_score-floor-requires-clause-within g c).In_ok-terms).0.terms_are)

pub next_candidate-requires-clause-terms : goal.next_candidate-requires-clause-terms
next_candidate-requires-clause-terms g c =
    subst (λ (ls : List (List Posting)). AreTerms ls c.deref-in-loop-first.result.now) (sym c.loop-first.invariant.lists)
    (subst (AreTerms (map g.C.DocCursor.list c.args.cursors.now)) (sym c.deref-in-loop-first.ensures.value) (known g (goal.at.next_candidate-requires-clause-terms g c).In_ok-terms).0.terms_are)

pub next_candidate-requires-clause-weighty : goal.next_candidate-requires-clause-weighty
next_candidate-requires-clause-weighty g c =
    subst (λ (ts : List Term). All (λ t. 1 ≤ t.weight) ts) (sym c.deref-in-loop-first.ensures.value)
    (terms-weighty (map g.C.DocCursor.list c.args.cursors.now) c.args.weights.now c.in_ok-terms.terms.items (each g (goal.at.next_candidate-requires-clause-weighty g c).In_ok-terms) c.requires.some c.in_ok-terms.ensures.all)

pub postings_between-requires : goal.postings_between-requires
postings_between-requires g c =
    let are = subst (λ (ls : List (List Posting)). AreTerms ls c.in_ok-terms.terms.items) (sym (c.in-Some.ensures.lists ∙ c.loop-first.invariant.lists)) (known g (goal.at.postings_between-requires g c).In_ok-terms).0.terms_are in
    record { within = subst (λ (ts : List Term). All (λ t. t.list < length c.next_candidate.new.cursors) ts) (sym c.deref-in-Some.ensures.value) (within-all g.C.DocCursor.list c.next_candidate.new.cursors c.in_ok-terms.terms.items are) }

pub score_from-from-requires-clause-terms : goal.score_from-from-requires-clause-terms
score_from-from-requires-clause-terms g c =
    subst (λ (ls : List (List Posting)). AreQueryTerms ls c.deref-in-Some-2.result.now) (sym (c.in-Some.ensures.lists ∙ c.loop-first.invariant.lists))
    (subst (AreQueryTerms (map g.C.DocCursor.list c.args.cursors.now)) (sym c.deref-in-Some-2.ensures.value) (known g (goal.at.score_from-from-requires-clause-terms g c).In_ok-terms).0)

pub score_from-from-requires-clause-passed : goal.score_from-from-requires-clause-passed
score_from-from-requires-clause-passed g c =
    c.in-Some.ensures.passed

pub score_from-from-requires-clause-search : goal.score_from-from-requires-clause-search
score_from-from-requires-clause-search g c =
    let step = first-step g (goal.at.score_from-from-requires-clause-search g c).In-Some in
    record {
      below = subst (AreBelow c.loop-first.top.n) (sym (c.in-Some.ensures.lists ∙ c.loop-first.invariant.lists)) (subst (λ (n : ℕ). AreBelow n (map g.C.DocCursor.list c.args.cursors.now)) (sym c.loop-first.invariant.n) c.requires.in_range);
      narrow = omega (arith, c.loop-first.invariant.n, c.ranges.n.fits);
      in_range = omega (arith, step.in_range, c.loop-first.invariant.n);
      above = step.above;
    }

pub score_from-from-requires-clause-ready : goal.score_from-from-requires-clause-ready
score_from-from-requires-clause-ready g c =
    subst (λ (n : ℕ). IsReady (length c.deref-in-Some-2.result.now) n c.narrow_after.new.self) (sym c.loop-first.invariant.n)
    (subst (λ (count : ℕ). IsReady count c.args.n c.narrow_after.new.self) (sym (ap length c.deref-in-Some-2.ensures.value)) (c.narrow_after.ensures.ready (length c.in_ok-terms.terms.items) c.args.n c.loop-first.invariant.ready))

pub loop-first-smaller : goal.loop-first-smaller
loop-first-smaller g c =
    let step = first-step g (goal.at.loop-first-smaller g c).In-Some in
    omega (arith, step.later, c.score_from-from.ensures.between.0, c.score_from-from.ensures.between.1, c.loop-first.invariant.n, c.ranges.n.fits)

pub loop-first-preserved : goal.loop-first-preserved
loop-first-preserved g c =
    let so_far = c.loop-first.invariant in
    let scored = c.score_from-from.ensures in
    record {
      lists = scored.lists ∙ c.in-Some.ensures.lists ∙ so_far.lists;
      passed = scored.passed;
      in_range = omega (arith, scored.between.1, so_far.n);
      ready = subst (λ (n : ℕ). IsReady (length c.in_ok-terms.terms.items) n c.score_from-from.new.self) so_far.n
          (subst (λ (count : ℕ). IsReady count c.loop-first.top.n c.score_from-from.new.self) (ap length c.deref-in-Some-2.ensures.value) scored.ready);
      k = scored.searched.k ∙ so_far.k;
      n = scored.searched.n ∙ so_far.n;
      floor = scored.searched.floor ∙ so_far.floor;
      held = follows-same (map g.C.DocCursor.list c.next_candidate.new.cursors) (map g.C.DocCursor.list c.args.cursors.now) c.deref-in-Some-2.result.now c.in_ok-terms.terms.items c.loop-first.top.floor c.common_score-floor.result c.loop-first.top.k c.args.k
          c.in-Some.first c.score_from-from.result c.loop-first.top.held c.score_from-from.new.top.held (c.in-Some.ensures.lists ∙ so_far.lists) c.deref-in-Some-2.ensures.value so_far.floor so_far.k scored.searched.held
          c.args.weights.now (known g (goal.at.loop-first-preserved g c).In_ok-terms).1 (first-step g (goal.at.loop-first-preserved g c).In-Some).top;
    }

pub returns-clause-first : goal.returns-clause-first
returns-clause-first g c =
    let top = top-of_none g (goal.at.returns-clause-first g c).In_default in
    IfOk-weaker c.into_list.result (λ r. r.items ≡ c.loop-first.top.held) (λ r. IsTop c.args.n (map g.C.DocCursor.list c.args.cursors.now) c.args.weights.now c.args.k r.items)
    (λ r is. subst (IsTop c.args.n (map g.C.DocCursor.list c.args.cursors.now) c.args.weights.now c.args.k) (sym is) top) c.into_list.ensures

pub returns-clause-bound : goal.returns-clause-bound
returns-clause-bound g c =
    let is = known g (goal.at.returns-clause-bound g c).In_ok-terms in
    let light = scores-light (in_any c.args.n (map g.C.DocCursor.list c.args.cursors.now)) (map g.C.DocCursor.list c.args.cursors.now) c.args.weights.now c.in_ok-terms.terms.items c.args.k c.loop-first.top.held is.1 is.0.terms_are (top-of_none g (goal.at.returns-clause-bound g c).In_default) in
    IfOk-weaker c.into_list.result (λ r. r.items ≡ c.loop-first.top.held) (λ r. All (λ e. e.1 < 2 ^ 58) r.items) (λ r is. subst (λ (h : List (ℕ × ℕ)). All (λ e. e.1 < 2 ^ 58) h) (sym is) light) c.into_list.ensures
