use Rattle.std.proofs.Common.{◌≡◌, ℕ, ◌-◌, ◌<◌, ◌≤◌, slice_index, length}
use Rattle.index_file.proofs.starts.less_places.Given as goal

abbrev pub invariant-loop-t : goal.invariant-loop-t
invariant-loop-t l = record {
  less : (i : ℕ) → i < l.t → slice_index l.numbers i ≡ slice_index l.initial.numbers i - i;
  left : (i : ℕ) → l.t ≤ i → slice_index l.numbers i ≡ slice_index l.initial.numbers i;
  room : length l.numbers ≡ length l.initial.numbers;
}
