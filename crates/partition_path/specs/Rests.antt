use Rattle.std.specs.Prelude.{◌≡◌, ℕ, ◌+◌, ◌≤◌, ◌<◌, ◌==◌, nat_lt, ◌&&◌, Bool, IsTrue, List}
use Rattle.std.specs.Prelude.{Option, None, Some, if◌then◌else◌}
use Rattle.part_cost.specs.Partition.{IsPartitionFrom, WithinLimitFrom, cost_from}

-- parts of n numbers from place i on, each within the limit where that is to hold
pub record AreParts (limited : Bool) (limit : ℕ) (cost : ℕ → ℕ → ℕ) (n i : ℕ) (ends : List ℕ)
    : Type 0 where
  pub partition : IsPartitionFrom i n ends
  pub within : IsTrue limited → WithinLimitFrom limit cost i ends

-- the least cost of such parts
pub record IsCheapestRest (limited : Bool) (limit : ℕ) (cost : ℕ → ℕ → ℕ) (n i least : ℕ)
    : Type 0 where
  pub reached : (ends : List ℕ)
      × AreParts limited limit cost n i ends × (cost_from cost i ends ≡ least)
  pub none_less : (ends : List ℕ)
      → AreParts limited limit cost n i ends → least ≤ cost_from cost i ends

-- Each part of more than b of n numbers costs more than the limit.
abbrev pub LongPartsAreAbove : (limit : ℕ) (cost : ℕ → ℕ → ℕ) (n b : ℕ) → Type 0
LongPartsAreAbove limit cost n b = (i j : ℕ) → i + b < j → j ≤ n → limit < cost i j

-- what a part costs, where it may be taken: none above the limit where that is to hold
abbrev pub cost_within : Bool → (limit part : ℕ) → Option ℕ
cost_within limited limit part = if limited && nat_lt limit part then None else Some part

-- what all n numbers cost as one part, where there are some and it may be taken
abbrev pub whole_cost : Bool → ℕ → (ℕ → ℕ → ℕ) → ℕ → Option ℕ
whole_cost limited limit cost n = if n == 0 then None else cost_within limited limit (cost 0 n)
