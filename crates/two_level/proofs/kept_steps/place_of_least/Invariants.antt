use Rattle.std.proofs.Common.{ℕ, ◌<◌, ◌≤◌, length, slice_index}
use Rattle.two_level.proofs.kept_steps.place_of_least.Given as goal

abbrev pub invariant-loop-place : goal.invariant-loop-place
invariant-loop-place l = record {
  within : l.least < length l.numbers;
  least_is : (k : ℕ) → k < l.place → slice_index l.numbers l.least ≤ slice_index l.numbers k;
}
