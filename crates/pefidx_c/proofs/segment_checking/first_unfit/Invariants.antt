use Rattle.pefidx_c.proofs.SegmentsFit.{AreChecked}
use Rattle.pefidx_c.proofs.segment_checking.first_unfit.Given as goal

abbrev pub invariant-loop-s : goal.invariant-loop-s
invariant-loop-s l = AreChecked l.words l.segments l.s l.joined
