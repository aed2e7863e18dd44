use Rattle.index_file.specs.IndexView.{index_stated}
use Rattle.index_file.specs.ListWalk.{AreEmpty}
use Rattle.index_file.proofs.walk.first_of_plain.Given as goal

abbrev pub invariant-loop-t : goal.invariant-loop-t
invariant-loop-t l = AreEmpty (index_stated l.words).collection l.fn.from l.t
