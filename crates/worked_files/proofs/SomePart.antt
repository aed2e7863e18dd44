-- A partition of some numbers has a part.
use Rattle.std.proofs.Common.{ℕ, ◌<◌, List, [], ◌∷◌, length, arith}
use Rattle.part_cost.specs.Partition.{IsPartition}

pub parts-some : (n : ℕ) (ends : List ℕ) → IsPartition n ends → 0 < n → 0 < length ends
parts-some n [] h some = omega (arith, h)
parts-some n (end ∷ ends) h some = omega arith
