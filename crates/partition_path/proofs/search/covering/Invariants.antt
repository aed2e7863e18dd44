use Rattle.std.proofs.Common.{ℕ, ◌-◌, ◌<◌, ◌≤◌, length, get_or}
use Rattle.partition_path.proofs.search.covering.Given as goal

abbrev pub invariant-loop-first : goal.invariant-loop-first
invariant-loop-first l = (l.k ≤ l.first) × (l.first ≤ length l.bounds) × ((m : ℕ) → l.k ≤ m → m < l.first → get_or l.bounds m 0 < l.part)

abbrev pub decreases-loop-first : goal.decreases-loop-first
decreases-loop-first l = length l.bounds - l.first
