use Rattle.remap.proofs.MapIds.{IdsSoFar}
use Rattle.remap.proofs.reading.read_ids.Given as goal

abbrev pub invariant-loop-place : goal.invariant-loop-place
invariant-loop-place g l =
    IdsSoFar l.n l.place l.fn.held l.held (g.D.Depot.state l.fn.depot) (g.D.Depot.state l.depot) l.ids.items l.seen.items
