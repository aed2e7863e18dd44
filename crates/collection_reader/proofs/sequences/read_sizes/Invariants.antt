use Rattle.collection_reader.proofs.Sizes.{SizesSoFar}
use Rattle.collection_reader.proofs.sequences.read_sizes.Given as goal

abbrev pub invariant-loop-place : goal.invariant-loop-place
invariant-loop-place g l =
    SizesSoFar l.documents l.place l.fn.held l.held (g.D.Depot.state l.fn.depot) (g.D.Depot.state l.depot) l.sizes.items
