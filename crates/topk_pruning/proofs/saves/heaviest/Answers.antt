use Rattle.std.proofs.Common.{◌≡◌, ap, ◌∙◌, ℕ, ◌+◌, ◌∷◌, ◌++◌, [], List, max, take, get_or, arith}
use Rattle.std.proofs.lemmas.List.{take_all, take_more}
use Rattle.collection_model.specs.Collection.{greatest}
use Rattle.topk_pruning.proofs.Longest.{greatest-push}
use Rattle.topk_pruning.proofs.saves.heaviest.Goals as goal

pub loop-weight-preserved : goal.loop-weight-preserved
loop-weight-preserved c =
    let weights : List ℕ = c.args.weights.now in
    let i : ℕ = c.loop-weight.weight-index in
    let more : take (i + 1) weights ≡ take i weights ++ get_or weights i 0 ∷ [] = take_more weights i 0 (omega (arith, c.loop-weight-test.true)) in
    let next : greatest (take (i + 1) weights) ≡ max (get_or weights i 0) (greatest (take i weights)) = ap greatest more ∙ greatest-push (take i weights) (get_or weights i 0) in
    omega (arith, next, c.max-most.ensures, c.loop-weight.invariant)

pub returns : goal.returns
returns c =
    c.loop-weight.invariant ∙ ap greatest (take_all c.loop-weight.weight-index c.args.weights.now (omega (arith, c.loop-weight-test.false)))
