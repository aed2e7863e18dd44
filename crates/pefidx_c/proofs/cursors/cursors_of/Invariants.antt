use Rattle.std.proofs.Common.{◌≡◌, map, take}
use Rattle.std.specs.List.{All}
use Rattle.pefidx_c.specs.Asked.{lists_of}
use Rattle.pefidx_c.proofs.cursors.cursors_of.Given as goal

abbrev pub invariant-loop-term : goal.invariant-loop-term
invariant-loop-term g l = record {
  lists : map g.S.Cursor.DocCursor.list l.cursors.items ≡ lists_of (g.S.ListSource.collection l.source) (take l.term-index l.terms);
  start : All (λ c. g.S.Cursor.DocCursor.place c ≡ 0) l.cursors.items;
}
