use Rattle.std.proofs.Common.{◌≡◌, ◌-◌, length}
use Rattle.index_reading.proofs.ReadBack.{AreRead}
use Rattle.index_reading.proofs.lists.read_list.Given as goal

abbrev pub invariant-loop-doc : goal.invariant-loop-doc
invariant-loop-doc g l =
    (g.C.DocCursor.list l.cursor ≡ g.C.DocCursor.list l.initial.cursor)
    × AreRead (g.C.DocCursor.list l.initial.cursor) (g.C.DocCursor.place l.cursor) l.docs.items l.freqs.items

abbrev pub decreases-loop-doc : goal.decreases-loop-doc
decreases-loop-doc g l = length (g.C.DocCursor.list l.cursor) - g.C.DocCursor.place l.cursor
