-- That lists are cut into blocks is one fact.
use Rattle.std.proofs.Common.{ℕ, List, [], ◌∷◌}
use Rattle.std.proofs.Props.{props}
use Rattle.std.specs.List.{All}
use Rattle.part_cost.specs.Partition.{IsPartitionFrom}
use Rattle.block_max.specs.Blocks.{BlockList, IsBlockList}

partition-prop : (i n : ℕ) (ends : List ℕ) → IsProp (IsPartitionFrom i n ends)
partition-prop i n [] = Prim.hlevel props
partition-prop i n (end ∷ ends) = Prim.hlevel (props, partition-prop end n ends)

pub cut-prop : (cs : List BlockList) → IsProp (All IsBlockList cs)
cut-prop cs = Prim.hlevel (props, partition-prop)
