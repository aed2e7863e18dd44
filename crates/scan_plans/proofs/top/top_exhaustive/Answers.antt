use Rattle.std.proofs.Common.{subst, ℕ, List, map}
use Rattle.std.proofs.lemmas.Result.{IfOk-weaker}
use Rattle.collection_model.specs.Collection.{Posting}
use Rattle.scan_plans.specs.IsTop.{IsTop}
use Rattle.scan_plans.proofs.Few.{top-of_all}
use Rattle.scan_plans.proofs.top.top_exhaustive.Goals as goal

pub returns-clause-first : goal.returns-clause-first
returns-clause-first g c =
    let lists : List (List Posting) = map g.C.DocCursor.list c.args.cursors.now in
    let weights : List ℕ = c.args.weights.now in
    let most : ℕ = c.most_found.result in
    IfOk-weaker c.score_all.result (λ r. IsTop c.args.n lists weights c.min-most.result r.items) (λ r. IsTop c.args.n lists weights c.args.k r.items)
    (λ r top. c.top_list_is_short.ensures c.args.n lists weights c.args.k r.items (subst (λ (k : ℕ). IsTop c.args.n lists weights k r.items) c.most_found.ensures
    (top-of_all c.args.n lists weights most r.items (subst (λ (k : ℕ). IsTop c.args.n lists weights k r.items) c.min-most.ensures top)))) c.score_all.ensures.first
