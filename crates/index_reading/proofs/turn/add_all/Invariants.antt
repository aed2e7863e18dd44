use Rattle.index_reading.proofs.InTurn.{AreReading}
use Rattle.index_reading.proofs.turn.add_all.Given as goal

abbrev pub invariant-loop-i : goal.invariant-loop-i
invariant-loop-i l = AreReading l.initial.parts l.parts l.fn.term l.i l.docs.items l.freqs.items
