use Rattle.pefidx_c.proofs.Merged.{AreCounted}
use Rattle.pefidx_c.proofs.merging.passing_segment.Given as goal

abbrev pub invariant-loop-s : goal.invariant-loop-s
invariant-loop-s l = AreCounted l.words l.segments l.s l.total
