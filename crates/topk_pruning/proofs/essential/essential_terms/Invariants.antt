use Rattle.std.proofs.Common.{◌≡◌, ◌<◌, ℕ, drop, true}
use Rattle.topk_pruning.specs.Terms.{bounds, beats}
use Rattle.topk_pruning.proofs.essential.essential_terms.Given as goal

abbrev pub invariant-loop-term : goal.invariant-loop-term
invariant-loop-term l = record {
  left : l.left ≡ bounds (drop l.term-index l.terms);
  count : l.count ≡ l.term-index;
  needed : (i : ℕ) → i < l.count → beats l.bar (bounds (drop i l.terms)) ≡ true;
}
