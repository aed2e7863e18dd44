use Rattle.std.proofs.Common.{◌≡◌, ◌+◌, leb, drop}
use Rattle.std.specs.List.{position_or_len}
use Rattle.collection_model.specs.Sequences.{steps_from}
use Rattle.two_level.proofs.long_steps.first_long.Given as goal

abbrev pub invariant-loop-index : goal.invariant-loop-index
invariant-loop-index l = l.index + position_or_len (λ s. leb l.least s) (steps_from l.past (drop l.index l.values)) ≡ position_or_len (λ s. leb l.least s) (steps_from l.first l.values)
