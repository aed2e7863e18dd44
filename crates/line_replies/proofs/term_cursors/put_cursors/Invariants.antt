use Rattle.std.proofs.Common.{◌≡◌, length, map, take}
use Rattle.std.specs.List.{All}
use Rattle.command_model.specs.Replies.{lists_of}
use Rattle.line_replies.proofs.term_cursors.put_cursors.Given as goal

abbrev pub invariant-loop-at : goal.invariant-loop-at
invariant-loop-at g l = record {
  lists : map g.L.Cursor.DocCursor.list (take l.at l.cursors) ≡ lists_of (g.L.TermLists.collection l.lists) (take l.at l.terms);
  start : All (λ c. g.L.Cursor.DocCursor.place c ≡ 0) (take l.at l.cursors);
  each : length l.cursors ≡ length l.terms;
}
