use Rattle.index_reading.proofs.Joining.{AreWalked}
use Rattle.index_reading.proofs.joined.walked_of.Given as goal

abbrev pub invariant-loop-segment : goal.invariant-loop-segment
invariant-loop-segment l = AreWalked l.segments l.segment-index l.most
