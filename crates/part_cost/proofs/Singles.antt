use Rattle.std.proofs.Common.{◌≡◌, ℕ, zero, suc, ◌+◌, ◌<◌, ◌≤◌, arith}
use Rattle.std.specs.List.{range_with_len}
use Rattle.part_cost.specs.Partition.{IsPartitionFrom, WithinLimitFrom}
use Rattle.part_cost.specs.Laws.{SinglesAreAllowed}

-- parts of one number each, from place i on
partition-from : (i n d : ℕ) → i + d ≡ n → IsPartitionFrom i n (range_with_len (i + 1) d)
partition-from i n zero e = omega arith
partition-from i n (suc d) e = (omega arith, partition-from (i + 1) n d (omega arith))

within-from : (limit : ℕ) (cost : ℕ → ℕ → ℕ) (i n d : ℕ) → i + d ≡ n → ((k : ℕ) → k < n → cost k (k + 1) ≤ limit)
    → WithinLimitFrom limit cost i (range_with_len (i + 1) d)
within-from limit cost i n zero e each = tt
within-from limit cost i n (suc d) e each = (each i (omega arith), within-from limit cost (i + 1) n d (omega arith) each)

pub singles-are-allowed : SinglesAreAllowed
singles-are-allowed limit cost n each = record {
  partition = partition-from 0 n n (omega arith);
  within = within-from limit cost 0 n n (omega arith) each;
}
