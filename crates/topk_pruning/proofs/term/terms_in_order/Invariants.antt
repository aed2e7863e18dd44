use Rattle.std.proofs.Common.{◌≡◌, ◌≤◌, ◌*◌, map, take}
use Rattle.std.specs.List.{sum, range_with_len}
use Rattle.topk_pruning.specs.Terms.{term_of, bounds}
use Rattle.topk_pruning.proofs.term.terms_in_order.Given as goal

abbrev pub invariant-loop-cursor : goal.invariant-loop-cursor
invariant-loop-cursor g l = record {
  all : l.terms.items ≡ map (term_of (map g.C.DocCursor.list l.cursors) l.weights) (range_with_len 0 l.cursor-index);
  light : bounds l.terms.items ≤ sum (take l.cursor-index l.weights) * 4294967295;
}
