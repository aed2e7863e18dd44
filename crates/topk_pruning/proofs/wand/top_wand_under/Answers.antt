use Rattle.std.proofs.Common.{subst, ℕ, List, map}
use Rattle.std.proofs.lemmas.Result.{IfOk-weaker}
use Rattle.collection_model.specs.Collection.{Posting}
use Rattle.scan_plans.specs.IsTop.{IsTop}
use Rattle.topk_pruning.proofs.wand.top_wand_under.Goals as goal

pub returns-clause-first : goal.returns-clause-first
returns-clause-first g c =
    let lists : List (List Posting) = map g.C.DocCursor.list c.args.cursors.now in
    let weights : List ℕ = c.args.weights.now in
    IfOk-weaker c.score_from_pivots.result (λ r. IsTop c.args.wanted.n lists weights c.most_found-most.result r.items) (λ r. IsTop c.args.wanted.n lists weights c.args.wanted.k r.items)
    (λ r top. c.top_list_is_short.ensures c.args.wanted.n lists weights c.args.wanted.k r.items (subst (λ (k : ℕ). IsTop c.args.wanted.n lists weights k r.items) c.most_found-most.ensures top)) c.score_from_pivots.ensures.first
