use Rattle.std.proofs.Common.{◌≡◌, ℕ, ◌+◌, ◌≤◌, ◌<◌, slice_index}
use Rattle.index_file.proofs.gaps.first_gap.Given as goal

abbrev pub invariant-loop-j : goal.invariant-loop-j
invariant-loop-j l = (i : ℕ) → l.fn.from ≤ i → i < l.j → slice_index l.numbers (i + 1) ≡ slice_index l.numbers i + 1
