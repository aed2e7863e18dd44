use Rattle.std.proofs.Common.{◌≡◌, ℕ, ◌-◌, ◌^◌, ◌<◌, length}
use Rattle.std.specs.Prelude.{slice_index}
use Rattle.scan_plans.proofs.docs.mark_all.Given as goal

abbrev pub invariant-loop-i : goal.invariant-loop-i
invariant-loop-i l = record {
  count : length l.marks ≡ length l.initial.marks;
  marked : (j : ℕ) → j < l.i → slice_index l.marks j ≡ 2 ^ 64 - 1;
}
