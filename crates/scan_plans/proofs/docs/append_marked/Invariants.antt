use Rattle.std.proofs.Common.{ℕ, ◌*◌, ◌^◌, ◌<◌, slice_index}
use Rattle.scan_plans.proofs.Marks.{IsAppended}
use Rattle.scan_plans.proofs.Windows.{IsCleared}
use Rattle.scan_plans.proofs.docs.append_marked.Given as goal

abbrev pub invariant-loop-i : goal.invariant-loop-i
invariant-loop-i l = record {
  appended : IsAppended l.first (64 * l.i) l.initial.marks l.initial.docs.items l.docs.items;
  cleared : IsCleared 0 l.i l.initial.marks l.marks;
  fits : (k : ℕ) → slice_index l.initial.marks k < 2 ^ 64;
}
