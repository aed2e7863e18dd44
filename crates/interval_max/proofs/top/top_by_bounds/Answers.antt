use Rattle.std.proofs.Common.{◌≡◌, refl, sym, ap, ◌∙◌, subst, ℕ, ◌^◌, ◌<◌, ◌≤◌, List, [], map, get_or, arith}
use Rattle.std.specs.List.{All}
use Rattle.std.proofs.lemmas.Result.{IfOk-weaker}
use Rattle.collection_model.specs.Collection.{Posting}
use Rattle.scan_plans.specs.Matches.{score}
use Rattle.scan_plans.specs.IsTop.{IsTop}
use Rattle.scan_plans.specs.Ranking.{Ranking}
use Rattle.interval_max.specs.Intervals.{interval_of}
use Rattle.interval_max.specs.Search.{IsQuery, IsSearch}
use Rattle.interval_max.proofs.Begun.{query-of, search-begun, search-ended, scores-light}
use Rattle.interval_max.proofs.Scores.{all-rising}
use Rattle.interval_max.proofs.Settled.{search-moved}
use Rattle.interval_max.proofs.top.top_by_bounds.Given.{Over}
use Rattle.interval_max.proofs.top.top_by_bounds.Goals as goal

-- the bounds are told by other cursors over the same lists
above : (lists others : List (List Posting)) (weights bounds sums : List ℕ) (n : ℕ) → others ≡ lists → bounds ≡ sums → ((d : ℕ) → d < n → score others weights d ≤ get_or sums (interval_of d) 0)
    → (d : ℕ) → d < n → score lists weights d ≤ get_or bounds (interval_of d) 0
above lists others weights bounds sums n same are le d inside =
    let here = ap (λ (ls : List (List Posting)). score ls weights d) same in
    let there = ap (λ (b : List ℕ). get_or b (interval_of d) 0) are in
    omega (arith, le d inside)

pub score_intervals-requires-clause-search : goal.score_intervals-requires-clause-search
score_intervals-requires-clause-search g c =
    let list = g.C.DocCursor.list in
    let lists : List (List Posting) = map list c.args.rest.now in
    let weights : List ℕ = c.args.query.weights.now in
    let bounds : List ℕ = c.as_mut_slice-bounds.result.now in
    let law = c.top_list_grows_in_any_order.ensures in
    let query = query-of list g.C.DocCursor.place c.args.query.n c.args.rest.now weights c.requires.query (omega arith) in
    let le = above lists (map list c.args.bounding.now) weights bounds c.in_ok-sums.sums.items c.args.query.n c.requires.bounding.lists c.as_mut_slice-bounds.ensures.value c.in_ok-sums.ensures.bound in
    subst (λ (t : Ranking). IsSearch t.n (map list c.args.first.now) weights t.k bounds t.held) (sym c.in_ok-top.ensures)
    (subst (λ (ls : List (List Posting)). IsSearch c.args.query.n ls weights c.args.query.k bounds []) (sym c.requires.first.lists)
    (search-begun c.args.query.n lists weights c.args.query.k bounds law.none law.skipped c.top_list_grows.ensures.in_range query.below query.each query.some (all-rising list g.C.DocCursor.place g.met.C.DocCursor.well_formed c.args.rest.now) le))

pub score_intervals-requires-2-clause-query : goal.score_intervals-requires-2-clause-query
score_intervals-requires-2-clause-query g c =
    let list = g.C.DocCursor.list in
    let same : c.args.query.n ≡ c.score_intervals.new.top.n = sym (c.score_intervals.ensures.n ∙ ap (λ (t : Ranking). t.n) c.in_ok-top.ensures) in
    subst (λ (n : ℕ). IsQuery n (map list c.args.rest.now) c.args.query.weights.now) same
    (query-of list g.C.DocCursor.place c.args.query.n c.args.rest.now c.args.query.weights.now c.requires.query (omega arith))

-- what is held in the end are the first k
held-first : (g : Over) (c : goal.After-drop-sums-2 g) → IsTop c.args.query.n (map g.C.DocCursor.list c.args.rest.now) c.args.query.weights.now c.args.query.k c.score_intervals-2.new.top.held
held-first g c =
    let lists : List (List Posting) = map g.C.DocCursor.list c.args.rest.now in
    let weights : List ℕ = c.args.query.weights.now in
    let bounds : List ℕ = c.score_intervals-2.new.bounds in
    let held : List (ℕ × ℕ) = c.score_intervals-2.new.top.held in
    let same_k : c.score_intervals.new.top.k ≡ c.args.query.k = c.score_intervals.ensures.k ∙ ap (λ (t : Ranking). t.k) c.in_ok-top.ensures in
    let same_n : c.score_intervals.new.top.n ≡ c.args.query.n = c.score_intervals.ensures.n ∙ ap (λ (t : Ranking). t.n) c.in_ok-top.ensures in
    search-ended c.args.query.n lists weights c.args.query.k bounds c.top_list_grows_in_any_order.ensures.all held
    (λ v lt. c.score_intervals-2.ensures.settled refl v (omega (arith, c.score_intervals.auto.bounds, c.as_mut_slice-bounds.ensures.len, c.as_mut_slice-bounds.ensures.value, c.in_ok-sums.ensures.count)))
    (search-moved c.score_intervals.new.top.n c.args.query.n c.score_intervals.new.top.k c.args.query.k lists lists weights bounds held same_n same_k refl c.score_intervals-2.ensures.search)

pub returns-clause-first : goal.returns-clause-first
returns-clause-first g c =
    let lists : List (List Posting) = map g.C.DocCursor.list c.args.rest.now in
    let held : List (ℕ × ℕ) = c.score_intervals-2.new.top.held in
    IfOk-weaker c.into_list.result (λ r. r.items ≡ held) (λ r. IsTop c.args.query.n lists c.args.query.weights.now c.args.query.k r.items)
    (λ r is. subst (IsTop c.args.query.n lists c.args.query.weights.now c.args.query.k) (sym is) (held-first g c)) c.into_list.ensures

pub returns-clause-bound : goal.returns-clause-bound
returns-clause-bound g c =
    let list = g.C.DocCursor.list in
    let held : List (ℕ × ℕ) = c.score_intervals-2.new.top.held in
    let light = scores-light c.args.query.n c.args.query.k (map list c.args.rest.now) c.args.query.weights.now held c.requires.query.light (all-rising list g.C.DocCursor.place g.met.C.DocCursor.well_formed c.args.rest.now) (held-first g c) in
    IfOk-weaker c.into_list.result (λ r. r.items ≡ held) (λ r. All (λ (e : ℕ × ℕ). e.1 < 2 ^ 58) r.items)
    (λ r is. subst (All (λ (e : ℕ × ℕ). e.1 < 2 ^ 58)) (sym is) light) c.into_list.ensures
