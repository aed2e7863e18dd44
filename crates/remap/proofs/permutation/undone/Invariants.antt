use Rattle.std.proofs.Common.{◌≡◌, ℕ, ◌<◌, length, get_or}
use Rattle.remap.proofs.permutation.undone.Given as goal

abbrev pub invariant-loop-d : goal.invariant-loop-d
invariant-loop-d l = record {
  count : length l.back.items ≡ length l.ids;
  back_again : (k : ℕ) → k < l.d → get_or l.back.items (get_or l.ids k 0) 0 ≡ k;
}
