-- Lemmas on partitions: how many parts, where they end, and what they cost.
use Rattle.std.proofs.Common.{◌≡◌, ℕ, ◌+◌, ◌*◌, ◌≤◌, List, [], ◌∷◌, length, arith}
use Rattle.collection_model.specs.FormatNumbers.{FormatNumbers, entry_words, part_charge}
use Rattle.part_cost.specs.Span.{payload_of_part, cost_of_part}
use Rattle.part_cost.specs.Partition.{IsPartitionFrom, cost_from}
use Rattle.part_cost.specs.Laws.{NearIsNearTheCheapest}

-- parts from a place on end behind it
pub ends-within : (i n : ℕ) (ends : List ℕ) → IsPartitionFrom i n ends → i ≤ n
ends-within i n [] h = omega arith
ends-within i n (end ∷ ends) h = omega (arith, h.0, ends-within end n ends h.1)

-- there are at most as many as the numbers from that place on
pub few-parts : (i n : ℕ) (ends : List ℕ) → IsPartitionFrom i n ends → i + length ends ≤ n
few-parts i n [] h = omega (arith, h)
few-parts i n (end ∷ ends) h = omega (arith, h.0, few-parts end n ends h.1)

-- the cost of a partition is the charge of each part and the payload of all
pub charges : (format : FormatNumbers) (xs : List ℕ) (i : ℕ) (ends : List ℕ)
    → cost_from (cost_of_part (part_charge format) xs) i ends ≡ 64 * (entry_words format * length ends) + cost_from (payload_of_part xs) i ends
charges format xs i [] = omega arith
charges format xs i (end ∷ ends) = omega (arith, charges format xs end ends)

-- one that is near each allowed partition is near the cheapest, which is one of these
pub near-is_near_the_cheapest : NearIsNearTheCheapest
near-is_near_the_cheapest limit cost n least ends near cheapest =
    let reached = cheapest.reached in
    (cheapest.none_less ends near.allowed, omega (arith, near.near reached.0 reached.1, reached.2))
