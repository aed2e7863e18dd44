use Rattle.std.proofs.Common.{◌≡◌, refl, subst, ℕ, ◌+◌, ◌-◌, ◌*◌, ◌/◌, ◌≤◌, List, map, get_or, arith}
use Rattle.collection_model.specs.Collection.{Posting}
use Rattle.interval_max.specs.Search.{is_settled}
use Rattle.interval_max.proofs.Cursors.{later-passed}
use Rattle.interval_max.proofs.Settled.{skipped-search, scored-search, none-held, not-seen}
use Rattle.interval_max.proofs.pass.score_next.Goals as goal

-- nothing in it can enter
pub returns-clause-passed : goal.returns-clause-passed
returns-clause-passed g c = later-passed g.C.DocCursor.list g.C.DocCursor.place c.args.cursors.now (32 * c.args.pass.now.at) (32 * (c.args.pass.now.at + 1)) (omega arith) c.requires.passed

pub returns-clause-search : goal.returns-clause-search
returns-clause-search g c =
    let v : ℕ = c.args.pass.now.at in
    let old : List ℕ = c.args.bounds.now in
    let top = c.args.top.now in
    skipped-search v (v + 1) old c.settle-2.new.bounds c.settle-2.ensures c.top_list_grows_in_any_order.ensures.skipped top.n top.k (map g.C.DocCursor.list c.args.cursors.now) c.args.weights.now top.held c.requires.search
    (λ d s from to some le.
    let here : d / 32 ≡ v = omega arith in
    let high : s ≤ get_or old v 0 = subst (λ (j : ℕ). s ≤ get_or old j 0) here le in
    c.can_enter-enters.ensures c.if-enters.false d s (omega arith) high)

-- a run is scored
pub score_run-requires-clause-outside : goal.score_run-requires-clause-outside
score_run-requires-clause-outside g c =
    let v : ℕ = c.args.pass.now.at in
    let end : ℕ = c.run_end-end.result in
    let top = c.args.top.now in
    none-held c.top_list_grows_in_any_order.ensures.not_held top.n top.k v end (32 * v) (32 * v + 32 * (end - v)) (map g.C.DocCursor.list c.args.cursors.now) c.args.weights.now c.args.bounds.now top.held refl (omega (arith, c.run_end-end.ensures.later)) c.requires.search c.run_end-end.ensures.some

pub returns-then-enters-clause-search : goal.returns-then-enters-clause-search
returns-then-enters-clause-search g c =
    let v : ℕ = c.args.pass.now.at in
    let end : ℕ = c.run_end-end.result in
    let old : List ℕ = c.args.bounds.now in
    let top = c.args.top.now in
    let lists : List (List Posting) = map g.C.DocCursor.list c.args.cursors.now in
    let first : ℕ = 32 * v in
    let stop : ℕ = 32 * v + 32 * (end - v) in
    let ends : stop ≡ 32 * end = omega (arith, c.run_end-end.ensures.later) in
    scored-search v end old c.settle.new.bounds c.settle.ensures c.top_list_grows_in_any_order.ensures.skipped top.n top.k first stop lists c.args.weights.now top.held c.score_run.new.top.held refl ends c.requires.search
    (c.score_run.ensures.seen.top (is_settled old) (not-seen v end first stop old refl ends c.run_end-end.ensures.some) c.requires.search.top)
