-- What is known where parts from a place are tried.
use Rattle.std.specs.Prelude.{ℕ, ◌+◌, ◌*◌, ◌<◌, ◌≤◌, max, unwrap_or, IfSome}
use Rattle.cost_windows.specs.EdgeFacts.{Knows}
use Rattle.partition_path.specs.declared.search.Window.{Window}
use Rattle.partition_path.specs.Tables.{Table, AreRoutes, IsReached, cost_to, unreached}

-- Two parts of n numbers cost at most a charge more than the part that is cut into them.
abbrev pub CutsCostACharge : ℕ → (ℕ → ℕ → ℕ) → ℕ → Type 0
CutsCostACharge charge cost n =
    (h i j : ℕ) → h < i → i < j → j ≤ n → cost h i + cost i j ≤ cost h j + charge

-- parts from place i of n numbers can be tried
pub record CanTry (limit : ℕ) (cost : ℕ → ℕ → ℕ) (n i : ℕ) (t : Table) : Type 0 where
  -- there is a number behind the place
  pub within : i < n
  -- no known route has a part that starts behind it
  pub routes : AreRoutes limit cost n (i + 1) t
  -- a route to it is known
  pub reached : IsReached t i
  -- there is room for its cost and twice that of an allowed part
  pub room : cost_to t i + 2 * limit < unreached

-- A route of this cost is within reach of a window of parts from a place that costs so much: it
-- costs at most the bound more, or 103/100 of what the part behind the edge is known to cost.
abbrev pub IsWithinReach : Window → ℕ → ℕ → Type 0
IsWithinReach w here total =
    100 * total ≤ 100 * here + max (100 * w.bound) (103 * unwrap_or w.edge.next 0)

-- a window of parts from place i of n numbers: known routes lead to its stand, for at most its
-- bound more than the one to i, and to its edge
pub record IsCheapWindow (limit : ℕ) (cost : ℕ → ℕ → ℕ) (n i : ℕ) (t : Table) (w : Window)
    : Type 0 where
  -- what is kept of the edge's costs are costs of parts from i on
  pub knows : Knows cost n i w.edge
  -- the next part is under the bound, where its cost is known
  pub next : IfSome w.edge.next (λ c. c ≤ w.bound)
  -- the route to the edge is cheap
  pub cheap_edge : IsWithinReach w (cost_to t i) (cost_to t w.edge.end)
  -- the stand is a place
  pub stand : w.stand ≤ n
  -- the route to it is cheap
  pub cheap_stand : cost_to t w.stand ≤ cost_to t i + w.bound
  -- parts of this cost are allowed
  pub allowed : w.bound ≤ limit
