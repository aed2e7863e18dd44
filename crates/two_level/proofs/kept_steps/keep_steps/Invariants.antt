use Rattle.std.proofs.Common.{◌≡◌, ℕ, ◌<◌, ◌≤◌, ◌+◌, min, length, slice_index, drop}
use Rattle.collection_model.specs.Sequences.{steps_from}
use Rattle.two_level.specs.LongSteps.{count_reaching}
use Rattle.two_level.proofs.kept_steps.keep_steps.Given as goal

abbrev pub invariant-loop-value : goal.invariant-loop-value
invariant-loop-value l = record {
  within : l.least < length l.kept;
  least_is : (k : ℕ) → k < length l.kept → slice_index l.kept l.least ≤ slice_index l.kept k;
  same_kept : length l.kept ≡ length l.fn.kept;
  longest : (t : ℕ) → min (length l.fn.kept) (count_reaching t l.kept + count_reaching t (steps_from l.past (drop l.value-index l.values))) ≡ min (length l.fn.kept) (count_reaching t l.fn.kept + count_reaching t (steps_from l.first l.values));
}
