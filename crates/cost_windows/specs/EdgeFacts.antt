use Rattle.std.specs.Prelude.{◌≡◌, ℕ, ◌+◌, ◌<◌, ◌≤◌, IfSome, IsSome, Some, None}
use Rattle.cost_windows.specs.declared.edge.Edge.{Edge}
use Rattle.cost_windows.specs.WindowEnds.{StandsAt}

-- The end lies from i to n, and what is kept of the costs are costs of parts from i on.
pub record Knows (cost : ℕ → ℕ → ℕ) (n i : ℕ) (edge : Edge) : Type 0 where
  pub after : i ≤ edge.end
  pub within : edge.end ≤ n
  pub known : IfSome edge.cost (λ c. (i < edge.end) × (c ≡ cost i edge.end))
  pub next : IfSome edge.next (λ c. (edge.end < n) × (c ≡ cost i (edge.end + 1)))

-- What the part costs and what the one that is a number longer costs are known, where there are
-- such parts.
pub record IsAsked (n i : ℕ) (edge : Edge) : Type 0 where
  pub cost : i < edge.end → IsSome edge.cost
  pub next : edge.end < n → IsSome edge.next

-- What is counted where a part is made longer by asking for one number more at a time.
pub record CountsNumbers (n : ℕ) (old new : Edge) (before after : ℕ) : Type 0 where
  -- nothing is taken back
  pub counted : before ≤ after
  -- one cost for each number, and one, at most
  pub bounded : after + old.end ≤ before + new.end + 1
  -- one cost where none of the next part is known
  pub asks : old.next ≡ None → old.end < n → before + 1 ≤ after
  -- none where that is known and the end stays
  pub known : (old.end < n → IsSome old.next) → new.end ≡ old.end → after ≡ before

-- The part from i to the longest end under a bound, from a position on at least, with its cost and
-- that of the part that is a number longer.
pub record IsLongestPart (cost : ℕ → ℕ → ℕ) (n i position bound : ℕ) (edge : Edge) : Type 0 where
  -- what is kept of the costs are costs of parts from i on
  pub knows : Knows cost n i edge
  -- the end is where a window of this bound stands
  pub stands : StandsAt cost n bound i edge.end
  -- the cost of the part is known
  pub priced : i < edge.end → edge.cost ≡ Some (cost i edge.end)
  -- the end is no earlier than the position
  pub reaches : position ≤ edge.end
  -- both costs are known where there are such parts
  pub asked : IsAsked n i edge
