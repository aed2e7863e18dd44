use Rattle.std.proofs.Common.{◌≡◌, ◌+◌, ◌++◌}
use Rattle.std.specs.Prelude.{slice_range}
use Rattle.collection_model.specs.Collection.{docs_of, freqs_of}
use Rattle.segments.specs.Joined.{shifted}
use Rattle.index_reading.proofs.turn.add_some.Given as goal

abbrev pub invariant-loop-j : goal.invariant-loop-j
invariant-loop-j g l =
    l.docs.items ≡ l.fn.docs.items ++ docs_of (shifted l.fn.first (slice_range (g.C.DocCursor.list l.fn.cursor) (g.C.DocCursor.place l.fn.cursor) (g.C.DocCursor.place l.fn.cursor + l.j)))

abbrev pub invariant-loop-k : goal.invariant-loop-k
invariant-loop-k g l =
    l.freqs.items ≡ l.fn.freqs.items ++ freqs_of (slice_range (g.C.DocCursor.list l.fn.cursor) (g.C.DocCursor.place l.fn.cursor) (g.C.DocCursor.place l.fn.cursor + l.k))
