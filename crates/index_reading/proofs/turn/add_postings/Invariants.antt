use Rattle.std.proofs.Common.{◌≡◌, ◌-◌, length, take}
use Rattle.index_reading.specs.InTurn.{AreAdded}
use Rattle.index_reading.proofs.turn.add_postings.Given as goal

abbrev pub invariant-loop-given_docs : goal.invariant-loop-given_docs
invariant-loop-given_docs g l = record {
  list : g.C.DocCursor.list l.cursor ≡ g.C.DocCursor.list l.initial.cursor;
  added : AreAdded l.fn.first (take (g.C.DocCursor.place l.cursor) (g.C.DocCursor.list l.initial.cursor)) l.initial.docs.items l.initial.freqs.items l.docs.items l.freqs.items;
}

abbrev pub decreases-loop-given_docs : goal.decreases-loop-given_docs
decreases-loop-given_docs g l = length (g.C.DocCursor.list l.cursor) - g.C.DocCursor.place l.cursor
