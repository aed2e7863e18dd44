use Rattle.std.proofs.Common.{◌≡◌, ℕ, ◌-◌, ◌<◌, ◌≤◌, List, length, slice_index}
use Rattle.std.specs.List.Sorted.{IsStrictlyIncreasing}
use Rattle.part_cost.specs.Span.{past}
use Rattle.part_directory.specs.HeldParts.{HoldsValues}
use Rattle.two_level.specs.LongSteps.{IsFirstStep}
use Rattle.two_level.proofs.long_steps.first_in_values.Given as goal

abbrev pub invariant-read : goal.invariant-read
invariant-read l = record {
  after : l.from ≤ l.place;
  within : l.place ≤ l.to;
  room : length l.block ≡ 64;
  value : l.place < l.to → (xs : List ℕ) → HoldsValues l.held xs → l.value ≡ slice_index xs l.place;
  past_is : (xs : List ℕ) → HoldsValues l.held xs → IsStrictlyIncreasing xs → l.past ≡ past xs l.place;
  none : (xs : List ℕ) → HoldsValues l.held xs → IsStrictlyIncreasing xs → IsFirstStep xs l.from l.place l.least l.place;
}

abbrev pub decreases-read : goal.decreases-read
decreases-read l = l.to - l.place
