use Rattle.std.proofs.Common.{◌≡◌, ◌^◌, ◌<◌, drop, max}
use Rattle.std.specs.List.{All}
use Rattle.collection_model.specs.Collection.{greatest}
use Rattle.collection_model.specs.Sequences.{steps_from}
use Rattle.worked_sequences.proofs.posting_cursors.greatest_step.Given as goal

abbrev pub invariant-loop-k : goal.invariant-loop-k
invariant-loop-k l = record {
  small : l.most < 2 ^ 32;
  largest : max l.most (greatest (steps_from l.past (drop l.k l.sums.values))) ≡ greatest (steps_from 0 l.sums.values);
  fits : All (λ f. f < 2 ^ 32) (steps_from l.past (drop l.k l.sums.values)) → All (λ f. f < 2 ^ 32) (steps_from 0 l.sums.values);
}
