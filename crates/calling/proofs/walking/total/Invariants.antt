use Rattle.std.proofs.Common.{◌≡◌, ◌-◌, length, take, sum_by}
use Rattle.calling.proofs.walking.total.Given as goal

abbrev pub invariant-loop-doc : goal.invariant-loop-doc
invariant-loop-doc g l =
    (g.C.DocCursor.list l.cursor ≡ g.C.DocCursor.list l.initial.cursor)
    × (l.total ≡ sum_by (λ p. p.freq) (take (g.C.DocCursor.place l.cursor) (g.C.DocCursor.list l.initial.cursor)))

abbrev pub decreases-loop-doc : goal.decreases-loop-doc
decreases-loop-doc g l = length (g.C.DocCursor.list l.cursor) - g.C.DocCursor.place l.cursor
