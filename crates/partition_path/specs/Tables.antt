use Rattle.std.specs.Prelude.{◌≡◌, ℕ, ◌+◌, ◌-◌, ◌*◌, ◌^◌, ◌<◌, ◌≤◌, ◌⊎◌}
use Rattle.std.specs.Prelude.{List, length, replicate, slice_index_or, slice_set}
use Rattle.partition_path.specs.declared.routes.Route.{Route}

-- for each place the cheapest known route to it or to a place behind it
abbrev pub Table : Type 0
Table = List Route

-- the cost of a place that no route is known to, more than that of any route
abbrev pub unreached : ℕ
unreached = 2 ^ 64 - 1

-- what stands in its place
abbrev pub no_route : Route
no_route = record { cost = unreached; start = 0 }

-- the route to place j that is known
abbrev pub route_to : Table → ℕ → Route
route_to t j = slice_index_or t j no_route

-- what it costs
abbrev pub cost_to : Table → ℕ → ℕ
cost_to t j = (route_to t j).cost

-- where its last part starts
abbrev pub start_to : Table → ℕ → ℕ
start_to t j = (route_to t j).start

-- a route to place j is known
abbrev pub IsReached : Table → ℕ → Type 0
IsReached t j = cost_to t j < unreached

-- the table for n numbers, where place 0 alone is reached
abbrev pub new_table : ℕ → Table
new_table n = slice_set (replicate (n + 1) no_route) 0 (record { cost = 0; start = 0 })

-- Each known route comes from a place before it that is reached.
abbrev pub AreLinked : Table → Type 0
AreLinked t = (j : ℕ) → 0 < j → j < length t → IsReached t j
    → (start_to t j < j) × IsReached t (start_to t j)

-- The last part of the route to place j starts before place i and is allowed; with the route to its
-- start it costs no more than is known.
pub record HasLastPart (limit : ℕ) (cost : ℕ → ℕ → ℕ) (i : ℕ) (t : Table) (j : ℕ) : Type 0 where
  pub earlier : start_to t j < i
  pub before : start_to t j < j
  pub sum : cost_to t (start_to t j) + cost (start_to t j) j ≤ cost_to t j
  pub allowed : cost (start_to t j) j ≤ limit

-- Each known route has allowed parts that start before i, and no place costs more than a place
-- behind it.
pub record AreRoutes (limit : ℕ) (cost : ℕ → ℕ → ℕ) (n i : ℕ) (t : Table) : Type 0 where
  pub places : length t ≡ n + 1
  pub origin : cost_to t 0 ≡ 0
  pub rising : (j k : ℕ) → j ≤ k → k ≤ n → cost_to t j ≤ cost_to t k
  pub last : (j : ℕ) → 0 < j → j ≤ n → IsReached t j → HasLastPart limit cost i t j
  pub small : (j : ℕ) → j ≤ n → IsReached t j → cost_to t j ≤ limit * j

-- The route to place j is the same.
abbrev pub IsSameAt : Table → Table → ℕ → Type 0
IsSameAt old new j = route_to new j ≡ route_to old j

-- The route by a part from start to end is taken at each place up to the end where its total is
-- cheaper, and all other routes are kept.
pub record IsOffered (start end total : ℕ) (old new : Table) : Type 0 where
  pub places : length new ≡ length old
  -- the last place before which none is cheaper
  pub cheap_to : ℕ
  pub after : start ≤ cheap_to
  pub within : cheap_to ≤ end
  pub cheap : cost_to old cheap_to ≤ total
  pub kept : (j : ℕ) → (j ≤ cheap_to) ⊎ (end < j) → IsSameAt old new j
  pub taken : (j : ℕ) → cheap_to < j → j ≤ end
      → (total < cost_to old j) × (route_to new j ≡ record { cost = total; start = start })

-- Parts from place i are tried: places behind it may become cheaper.
pub record AreTried (limit : ℕ) (cost : ℕ → ℕ → ℕ) (n i : ℕ) (old new : Table) : Type 0 where
  pub routes : AreRoutes limit cost n (i + 1) new
  pub same : (j : ℕ) → j ≤ i → IsSameAt old new j
  pub cheaper : (j : ℕ) → cost_to new j ≤ cost_to old j

-- The allowed part from place i to place e is answered: the route there costs at most what is spent
-- before it and 103/100 of the part.
abbrev pub IsAnswered : ℕ → (ℕ → ℕ → ℕ) → ℕ → ℕ → Table → ℕ → Type 0
IsAnswered limit cost i here t e =
    cost i e ≤ limit → 100 * cost_to t e ≤ 100 * here + 103 * cost i e

-- A route leads on from place i to a later place for at most 103/100 of the payload of the part up
-- to there.
abbrev pub IsCheapWay : ℕ → (ℕ → ℕ → ℕ) → Table → ℕ → ℕ → Type 0
IsCheapWay charge cost t i start =
    100 * cost_to t start + 103 * charge ≤ 100 * cost_to t i + 103 * cost i start

-- A part from place i to place e can begin at a place between them: with a route there it costs at
-- most 103/100 of what it costs from i.
pub record HasLaterStart (cost : ℕ → ℕ → ℕ) (t : Table) (i e : ℕ) : Type 0 where
  pub start : ℕ
  pub after : i < start
  pub before : start < e
  pub cheap : 100 * cost_to t start + 103 * cost start e ≤ 100 * cost_to t i + 103 * cost i e

-- An allowed part from place i to place e need not be tried any more.
abbrev pub IsSettled : ℕ → (ℕ → ℕ → ℕ) → Table → ℕ → ℕ → Type 0
IsSettled limit cost t i e = cost i e ≤ limit
    → (100 * cost_to t e ≤ 100 * cost_to t i + 103 * cost i e) ⊎ HasLaterStart cost t i e

-- Each window stands at a place, of n numbers, that costs at most its bound more than is spent
-- before it.
pub record StandCheap (bounds : List ℕ) (n here : ℕ) (t : Table) (stands : List ℕ) : Type 0 where
  pub count : length stands ≡ length bounds
  pub within : (k : ℕ) → k < length bounds → slice_index_or stands k 0 ≤ n
  pub cheap : (k : ℕ) → k < length bounds
      → cost_to t (slice_index_or stands k 0) ≤ here + slice_index_or bounds k 0
