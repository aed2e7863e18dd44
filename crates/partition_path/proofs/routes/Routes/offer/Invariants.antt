use Rattle.std.proofs.Common.{◌≡◌, ◌⊎◌, ℕ, ◌<◌, ◌≤◌, length}
use Rattle.partition_path.specs.Tables.{IsSameAt, cost_to, route_to}
use Rattle.partition_path.proofs.routes.Routes.offer.Given as goal

abbrev pub invariant-loop-self : goal.invariant-loop-self
invariant-loop-self l =
    (l.start ≤ l.place) × (l.place ≤ l.end) × (length l.self ≡ length l.fn.self)
    × ((j : ℕ) → (j ≤ l.place) ⊎ (l.end < j) → IsSameAt l.fn.self l.self j)
    × ((j : ℕ) → l.place < j → j ≤ l.end → (l.total < cost_to l.fn.self j) × (route_to l.self j ≡ record { cost = l.total; start = l.start }))

abbrev pub decreases-loop-self : goal.decreases-loop-self
decreases-loop-self l = l.place
