use Rattle.std.proofs.Common.{◌||◌, true}
use Rattle.scan_plans.specs.Window.{AreGiven, is_marked}
use Rattle.scan_plans.proofs.window.mark_docs.Given as goal

abbrev pub invariant-loop-j : goal.invariant-loop-j
invariant-loop-j l = AreGiven ◌||◌ l.first l.docs (λ _. true) 0 l.j (is_marked l.initial.marks) (is_marked l.marks)
