use Rattle.std.proofs.Common.{◌≡◌, ℕ, ◌+◌, ◌*◌, ◌/◌, take, length}
use Rattle.interval_max.specs.Bytes.{ArePairs, paired_byte, pairs_in, reach}
use Rattle.interval_max.proofs.bytes.put_pair.Given as goal

abbrev pub invariant-loop-left : goal.invariant-loop-left
invariant-loop-left l = record {
  count_is : length l.bytes ≡ length l.initial.bytes;
  room : l.at + 2 * (l.left / 256 + 1) ≡ l.from + 2 * (l.far / 256 + 1);
  pairs : ArePairs (take l.at l.bytes);
  reach_is : reach (pairs_in (take l.at l.bytes)) + l.left ≡ reach (pairs_in (take l.from l.initial.bytes)) + l.far;
  same : (v : ℕ) → paired_byte 0 (pairs_in (take l.at l.bytes)) v ≡ paired_byte 0 (pairs_in (take l.from l.initial.bytes)) v;
}

abbrev pub decreases-loop-left : goal.decreases-loop-left
decreases-loop-left l = l.left
