use Rattle.std.proofs.Common.{◌≡◌, ℕ, ◌-◌, ◌<◌, ◌≤◌, List, length, slice_index}
use Rattle.std.specs.List.Sorted.{IsStrictlyIncreasing}
use Rattle.part_directory.specs.HeldParts.{HoldsValues}
use Rattle.two_level.proofs.Steps.{StepsRead}
use Rattle.two_level.proofs.stepping.step_of_values.Given as goal

abbrev pub invariant-read : goal.invariant-read
invariant-read l = record {
  after : l.from ≤ l.place;
  within : l.place ≤ l.to;
  room : length l.block ≡ 64;
  value : l.place < l.to → (xs : List ℕ) → HoldsValues l.held xs → l.value ≡ slice_index xs l.place;
  steps : (xs : List ℕ) → HoldsValues l.held xs → IsStrictlyIncreasing xs → StepsRead xs l.from l.place l.to l.past l.most;
}

abbrev pub decreases-read : goal.decreases-read
decreases-read l = l.to - l.place
