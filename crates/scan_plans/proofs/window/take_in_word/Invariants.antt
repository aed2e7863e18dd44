use Rattle.std.proofs.Common.{◌≡◌, ℕ, ◌+◌, ◌*◌, ◌<◌, ◌≤◌, true, set, slice_index}
use Rattle.scan_plans.specs.Window.{is_marked, AreTakenBack}
use Rattle.scan_plans.proofs.window.take_in_word.Given as goal

abbrev pub invariant-loop-rest : goal.invariant-loop-rest
invariant-loop-rest l = record {
  low : ℕ;
  start : 64 * l.i ≤ low;
  end : low ≤ 64 * (l.i + 1);
  taken : AreTakenBack low l.initial.scores l.initial.marks l.scores (set l.marks l.i l.rest);
  passed : (k : ℕ) → k < low → is_marked l.initial.marks k ≡ true → slice_index l.initial.scores k < l.least;
  same : l.marks ≡ l.initial.marks;
}

abbrev pub decreases-loop-rest : goal.decreases-loop-rest
decreases-loop-rest l = l.rest
