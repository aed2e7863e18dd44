use Rattle.std.proofs.Common.{◌≡◌, ◌+◌, ◌++◌, map, take, drop}
use Rattle.pefidx_c.specs.Rooms.{posting_of}
use Rattle.pefidx_c.proofs.asking.take_postings.Given as goal

abbrev pub invariant-loop-count : goal.invariant-loop-count
invariant-loop-count g l = record {
  list : g.C.DocCursor.list l.cursor ≡ g.C.DocCursor.list l.initial.cursor;
  place : g.C.DocCursor.place l.cursor ≡ g.C.DocCursor.place l.initial.cursor + l.count;
  given : map posting_of l.room ≡ take l.count (drop (g.C.DocCursor.place l.initial.cursor) (g.C.DocCursor.list l.initial.cursor)) ++ drop l.count (map posting_of l.initial.room);
}
