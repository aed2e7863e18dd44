use Rattle.std.proofs.Common.{◌≡◌, take}
use Rattle.topk_pruning.specs.Terms.{bounds}
use Rattle.topk_pruning.proofs.term.total_bound.Given as goal

abbrev pub invariant-loop-term : goal.invariant-loop-term
invariant-loop-term l = l.total ≡ bounds (take l.term-index l.terms)
