use Rattle.std.proofs.Common.{◌≡◌, drop}
use Rattle.index_reading.proofs.FirstJoined.{sought}
use Rattle.index_reading.proofs.joined.first_in.Given as goal

abbrev pub invariant-loop-segment : goal.invariant-loop-segment
invariant-loop-segment l = sought (drop l.segment-index l.segments) l.term l.doc ≡ sought l.segments l.term l.doc
