use Rattle.std.proofs.Common.{◌≡◌, ℕ, ◌+◌, ◌*◌, ◌<◌, ◌≤◌, take, length, slice_index}
use Rattle.interval_max.specs.Bytes.{paired_byte, pairs_in, reach}
use Rattle.interval_max.proofs.bytes.raise_by_pairs.Given as goal

abbrev pub invariant-loop-four : goal.invariant-loop-four
invariant-loop-four l = record {
  next_is : l.next ≡ reach (take (2 * l.four-index) (pairs_in l.bytes));
  low : l.next ≤ length l.initial.bounds;
  bytes : (k : ℕ) → k < length l.initial.bounds → slice_index l.bounds k ≡ slice_index l.initial.bounds k + l.times * paired_byte 0 (take (2 * l.four-index) (pairs_in l.bytes)) k;
}
