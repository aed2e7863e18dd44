use Rattle.std.proofs.Common.{◌≡◌, ◌-◌, length}
use Rattle.index_reading.proofs.ReadBack.{AreSummed}
use Rattle.index_reading.proofs.lists.total_of.Given as goal

abbrev pub invariant-loop-cursor : goal.invariant-loop-cursor
invariant-loop-cursor g l =
    (g.C.DocCursor.list l.cursor ≡ g.C.DocCursor.list l.initial.cursor)
    × AreSummed (g.C.DocCursor.list l.initial.cursor) (g.C.DocCursor.place l.cursor) l.total

abbrev pub decreases-loop-cursor : goal.decreases-loop-cursor
decreases-loop-cursor g l = length (g.C.DocCursor.list l.cursor) - g.C.DocCursor.place l.cursor
