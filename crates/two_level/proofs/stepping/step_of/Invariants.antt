use Rattle.std.proofs.Common.{◌≡◌, drop, max}
use Rattle.collection_model.specs.Collection.{greatest}
use Rattle.collection_model.specs.Sequences.{steps_from}
use Rattle.two_level.proofs.stepping.step_of.Given as goal

abbrev pub invariant-loop-value : goal.invariant-loop-value
invariant-loop-value l = max l.most (greatest (steps_from l.past (drop l.value-index l.values))) ≡ greatest (steps_from l.first l.values)
