use Rattle.std.proofs.Common.{◌≡◌, ℕ, ◌+◌, ◌<◌, ◌≤◌, slice_index}
use Rattle.part_directory.proofs.held.raise_first.Given as goal

abbrev pub invariant-loop-j : goal.invariant-loop-j
invariant-loop-j l = record {
  raised : (i : ℕ) → i < l.j → slice_index l.numbers i ≡ slice_index l.initial.numbers i + l.more;
  left : (i : ℕ) → l.j ≤ i → slice_index l.numbers i ≡ slice_index l.initial.numbers i;
}
