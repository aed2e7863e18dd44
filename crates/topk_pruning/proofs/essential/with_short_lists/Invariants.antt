use Rattle.std.proofs.Common.{◌≡◌, ◌≤◌, ◌<◌, drop, length}
use Rattle.std.specs.List.{All}
use Rattle.std.specs.List.Sorted.{IsPermutation}
use Rattle.topk_pruning.specs.Terms.{bounds}
use Rattle.topk_pruning.proofs.essential.with_short_lists.Given as goal

abbrev pub invariant-loop-place : goal.invariant-loop-place
invariant-loop-place g l = record {
  inside : All (λ t. t.list < length l.cursors) l.terms;
  moved : IsPermutation l.initial.terms l.terms;
  each : length l.terms ≡ length l.initial.terms;
  more : l.essential ≤ l.count;
  within : l.count ≤ l.place;
  less : bounds (drop l.count l.terms) ≤ bounds (drop l.essential l.initial.terms);
}
