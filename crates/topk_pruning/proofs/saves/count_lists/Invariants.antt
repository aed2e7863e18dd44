use Rattle.std.proofs.Common.{◌≡◌, map, min, length, take}
use Rattle.std.specs.List.{sum_by}
use Rattle.collection_model.specs.Collection.{greatest}
use Rattle.topk_pruning.proofs.saves.count_lists.Given as goal

abbrev pub invariant-loop-cursor : goal.invariant-loop-cursor
invariant-loop-cursor g l = record {
  all : l.all ≡ min (sum_by (λ c. length (g.C.DocCursor.list c)) (take l.cursor-index l.cursors)) 18446744073709551615;
  longest : l.longest ≡ greatest (take l.cursor-index (map length (map g.C.DocCursor.list l.cursors)));
}
