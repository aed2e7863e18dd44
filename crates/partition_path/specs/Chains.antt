use Rattle.std.specs.Prelude.{◌≡◌, ℕ, ◌<◌, ◌≤◌, List, [], ◌∷◌}
use Rattle.partition_path.specs.Tables.{Table, start_to}

-- ends from place i to place n, each by the route there from the one before it
abbrev pub IsChain : Table → ℕ → ℕ → List ℕ → Type 0
IsChain t i n [] = i ≡ n
IsChain t i n (end ∷ ends) = (start_to t end ≡ i) × (0 < end) × (end ≤ n) × IsChain t end n ends
