use Rattle.std.proofs.Common.{◌≡◌, map, take}
use Rattle.std.specs.List.{All}
use Rattle.command_model.specs.Replies.{lists_of}
use Rattle.line_replies.proofs.term_cursors.cursors_of.Given as goal

abbrev pub invariant-loop-term : goal.invariant-loop-term
invariant-loop-term g l = record {
  lists : map g.L.Cursor.DocCursor.list l.cursors.items ≡ lists_of (g.L.TermLists.collection l.lists) (take l.term-index l.terms);
  start : All (λ c. g.L.Cursor.DocCursor.place c ≡ 0) l.cursors.items;
}
