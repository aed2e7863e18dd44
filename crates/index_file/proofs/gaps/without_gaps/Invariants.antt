use Rattle.std.proofs.Common.{◌≡◌, ℕ, ◌+◌, ◌-◌, ◌≤◌, ◌<◌, slice_index}
use Rattle.index_file.proofs.gaps.without_gaps.Given as goal

abbrev pub invariant-loop-at : goal.invariant-loop-at
invariant-loop-at l = record {
  from : l.fn.from ≤ l.at;
  within : l.at < l.fn.count;
  follow : (i : ℕ) → l.fn.from ≤ i → i < l.at → slice_index l.numbers (i + 1) ≡ slice_index l.numbers i + 1;
}

abbrev pub decreases-loop-at : goal.decreases-loop-at
decreases-loop-at l = l.fn.count - l.at
