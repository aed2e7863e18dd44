use Rattle.std.proofs.Common.{◌≡◌, map}
use Rattle.std.specs.List.{range_with_len}
use Rattle.topk_pruning.specs.Terms.{highest, term_of}
use Rattle.topk_pruning.proofs.term.highest_bound.Given as goal

abbrev pub invariant-loop-list : goal.invariant-loop-list
invariant-loop-list g l = l.most ≡ highest (map (term_of (map g.C.DocCursor.list l.cursors) l.weights) (range_with_len 0 l.list))
