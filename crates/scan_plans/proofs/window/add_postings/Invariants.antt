use Rattle.std.proofs.Common.{◌+◌, ◌*◌, ◌||◌, true, slice_index}
use Rattle.scan_plans.specs.Window.{AreGiven, is_marked}
use Rattle.scan_plans.proofs.window.add_postings.Given as goal

abbrev pub invariant-loop-j : goal.invariant-loop-j
invariant-loop-j l = record {
  given : AreGiven ◌+◌ l.first l.docs (λ j. l.weight * slice_index l.freqs j) 0 l.j (slice_index l.initial.scores) (slice_index l.scores);
  marked : AreGiven ◌||◌ l.first l.docs (λ _. true) 0 l.j (is_marked l.initial.marks) (is_marked l.marks);
}
