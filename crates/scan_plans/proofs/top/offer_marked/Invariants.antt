use Rattle.std.proofs.Common.{ℕ, ◌*◌, ◌^◌, ◌<◌, slice_index}
use Rattle.scan_plans.proofs.Bests.{IsOffered}
use Rattle.scan_plans.proofs.Windows.{IsCleared}
use Rattle.scan_plans.proofs.top.offer_marked.Given as goal

abbrev pub invariant-loop-i : goal.invariant-loop-i
invariant-loop-i l = record {
  offered : IsOffered l.first (64 * l.i) l.initial.scores l.initial.top l.top;
  cleared : IsCleared 0 (64 * l.i) l.initial.scores l.scores;
  unmarked : IsCleared 0 l.i l.initial.marks l.marks;
  fits : (k : ℕ) → slice_index l.initial.marks k < 2 ^ 64;
}
