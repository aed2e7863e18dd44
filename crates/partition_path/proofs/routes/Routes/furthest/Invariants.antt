use Rattle.std.proofs.Common.{◌-◌, ◌<◌, ◌≤◌, length}
use Rattle.partition_path.specs.Tables.{cost_to}
use Rattle.partition_path.proofs.routes.Routes.furthest.Given as goal

abbrev pub invariant-loop-place : goal.invariant-loop-place
invariant-loop-place l = (l.from ≤ l.place) × (l.place < length l.self) × (cost_to l.self l.from ≤ l.most → cost_to l.self l.place ≤ l.most)

abbrev pub decreases-loop-place : goal.decreases-loop-place
decreases-loop-place l = l.last - l.place

abbrev pub invariant-loop-place-2 : goal.invariant-loop-place-2
invariant-loop-place-2 l = (l.from ≤ l.place) × (l.place < length l.self) × (cost_to l.self l.from ≤ l.most → cost_to l.self l.place ≤ l.most)

abbrev pub decreases-loop-place-2 : goal.decreases-loop-place-2
decreases-loop-place-2 l = l.last - l.place
