use Rattle.std.proofs.Common.{◌≡◌, refl, sym, subst, ℕ, ◌+◌, ◌*◌, ◌≤◌, ◌<◌, List, [], ◌∷◌, length, arith}
use Rattle.collection_model.specs.FormatNumbers.{FormatNumbers, part_charge}
use Rattle.part_cost.specs.Partition.{IsPartitionFrom, IsNear, cost_from}
use Rattle.part_cost.specs.Span.{cost_of_part, payload_of_part}
use Rattle.partition_path.specs.FoundCuts.{IsWhole}
use Rattle.part_cost.proofs.Partitions.{ends-within}

-- No partition costs less than what neither one part of all numbers does, nor two charges.
pub none-cheaper : (charge : ℕ) (cost : ℕ → ℕ → ℕ) (n bits : ℕ) → ((i j : ℕ) → i < j → j ≤ n → charge ≤ cost i j) → 0 < n → bits ≤ cost 0 n → bits ≤ 2 * charge → (others : List ℕ) → IsPartitionFrom 0 n others → bits ≤ cost_from cost 0 others
none-cheaper charge cost n bits least some one two [] h = absurd (omega (arith, h, some))
none-cheaper charge cost n bits least some one two (e ∷ []) h = subst (λ (x : ℕ). bits ≤ cost 0 x + 0) (sym h.1) (omega (arith, one))
none-cheaper charge cost n bits least some one two (e ∷ f ∷ others) h =
    let within = ends-within f n others h.1.1 in
    let first = least 0 e h.0 (omega (arith, h.1.0, within)) in
    let second = least e f h.1.0 within in
    omega (arith, first, second, two)

-- One part that costs at most two charges is near each partition, where two charges are allowed.
pub single-near : (limit charge : ℕ) (cost : ℕ → ℕ → ℕ) (n : ℕ) → ((i j : ℕ) → i < j → j ≤ n → charge ≤ cost i j) → 0 < n → cost 0 n ≤ 2 * charge → 2 * charge ≤ limit → IsNear limit cost n (n ∷ [])
single-near limit charge cost n least some cheap room =
    record {
      allowed = record { partition = (some, refl); within = (omega (arith, cheap, room), tt) };
      near = λ others a. let more = none-cheaper charge cost n (cost 0 n) least some (omega arith) cheap others a.partition in omega (arith, more);
    }

-- The whole of a list that takes at most two charges is near each partition.
pub whole-near : (format : FormatNumbers) (xs ends : List ℕ) → 0 < length xs → payload_of_part xs 0 (length xs) ≤ 2 * part_charge format → ends ≡ length xs ∷ [] → IsWhole format xs ends
whole-near format xs ends some cheap one =
    record {
      some = some;
      one = one;
      near = λ others a. omega (
        arith,
        none-cheaper (part_charge format) (cost_of_part (part_charge format) xs) (length xs) (payload_of_part xs 0 (length xs)) (λ i j b w. omega arith) some (omega arith) cheap others a.partition,
      );
    }
