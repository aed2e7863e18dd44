use Rattle.std.proofs.Common.{◌≡◌, take}
use Rattle.collection_model.specs.Collection.{greatest}
use Rattle.topk_pruning.proofs.saves.heaviest.Given as goal

abbrev pub invariant-loop-weight : goal.invariant-loop-weight
invariant-loop-weight l = l.most ≡ greatest (take l.weight-index l.weights)
