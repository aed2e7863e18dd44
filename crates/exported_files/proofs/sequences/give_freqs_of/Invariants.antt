use Rattle.std.proofs.Common.{◌≡◌, ◌-◌, length, Ok}
use Rattle.collection_model.specs.Bytes.{le32}
use Rattle.collection_model.specs.Collection.{freqs_of}
use Rattle.word_files.specs.Given.{Gives}
use Rattle.word_files.proofs.PlaceByPlace.{before}
use Rattle.exported_files.proofs.sequences.give_freqs_of.Given as goal

abbrev pub invariant-loop-writer : goal.invariant-loop-writer
invariant-loop-writer g l =
    let freqs = freqs_of (g.C.DocCursor.list l.fn.cursor) in
    (g.C.DocCursor.list l.cursor ≡ g.C.DocCursor.list l.fn.cursor)
    × Gives (before (le32 (length freqs)) le32 freqs (g.C.DocCursor.place l.cursor)) l.fn.writer l.writer (g.D.Depot.state l.fn.depot) (g.D.Depot.state l.depot) (Ok tt)

abbrev pub decreases-loop-writer : goal.decreases-loop-writer
decreases-loop-writer g l = length (g.C.DocCursor.list l.cursor) - g.C.DocCursor.place l.cursor
