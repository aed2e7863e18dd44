use Rattle.std.proofs.Common.{◌≡◌, ℕ, ◌+◌, ◌*◌, ◌-◌, ◌<◌, ◌≤◌, true, slice_index}
use Rattle.scan_plans.specs.Window.{is_marked, AreTakenBack}
use Rattle.scan_plans.proofs.window.take_candidate.Given as goal

abbrev pub invariant-loop-i : goal.invariant-loop-i
invariant-loop-i l = record {
  low : ℕ;
  start : 64 * l.i ≤ low;
  end : low ≤ 64 * (l.i + 1);
  taken : AreTakenBack low l.initial.scores l.initial.marks l.scores l.marks;
  passed : (k : ℕ) → k < low → is_marked l.initial.marks k ≡ true → slice_index l.initial.scores k < l.least;
}

abbrev pub decreases-loop-i : goal.decreases-loop-i
decreases-loop-i l = l.words - l.i
