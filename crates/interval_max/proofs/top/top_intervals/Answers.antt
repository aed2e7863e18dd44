use Rattle.std.proofs.Common.{subst, ℕ, List, map}
use Rattle.std.proofs.lemmas.Result.{IfOk-weaker}
use Rattle.collection_model.specs.Collection.{Posting}
use Rattle.scan_plans.specs.IsTop.{IsTop}
use Rattle.interval_max.proofs.top.top_intervals.Goals as goal

pub returns-clause-first : goal.returns-clause-first
returns-clause-first g c =
    let lists : List (List Posting) = map g.C.DocCursor.list c.args.rest.now in
    let weights : List ℕ = c.args.query.weights.now in
    IfOk-weaker c.top_by_bounds.result (λ r. IsTop c.args.query.n lists weights c.most_found-k.result r.items) (λ r. IsTop c.args.query.n lists weights c.args.query.k r.items)
    (λ r top. c.top_list_is_short.ensures c.args.query.n lists weights c.args.query.k r.items (subst (λ (k : ℕ). IsTop c.args.query.n lists weights k r.items) c.most_found-k.ensures top)) c.top_by_bounds.ensures.first
