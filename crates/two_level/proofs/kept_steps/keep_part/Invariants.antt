use Rattle.std.proofs.Common.{◌≡◌, ℕ, ◌-◌, ◌<◌, ◌≤◌, List, length, slice_index}
use Rattle.std.specs.Prelude.{slice_range}
use Rattle.std.specs.List.Sorted.{IsStrictlyIncreasing}
use Rattle.collection_model.specs.Sequences.{steps_from}
use Rattle.part_cost.specs.Span.{past}
use Rattle.part_directory.specs.HeldParts.{HoldsValues}
use Rattle.two_level.specs.LongSteps.{KeepsLongest}
use Rattle.two_level.proofs.kept_steps.keep_part.Given as goal

abbrev pub invariant-read : goal.invariant-read
invariant-read l = record {
  after : l.held.part.from ≤ l.place;
  within : l.place ≤ l.to;
  room : length l.block ≡ 64;
  same_kept : length l.kept ≡ length l.fn.kept;
  value : l.place < l.to → (xs : List ℕ) → HoldsValues l.held xs → l.value ≡ slice_index xs l.place;
  past_is : (xs : List ℕ) → HoldsValues l.held xs → IsStrictlyIncreasing xs → l.past ≡ past xs l.place;
  longest : (xs : List ℕ) → HoldsValues l.held xs → IsStrictlyIncreasing xs → KeepsLongest l.fn.kept (slice_range (steps_from 0 xs) l.held.part.from l.place) l.kept;
}

abbrev pub decreases-read : goal.decreases-read
decreases-read l = l.to - l.place
