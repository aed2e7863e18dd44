use Rattle.std.proofs.Common.{◌≡◌, ◌-◌, length, Ok}
use Rattle.collection_model.specs.Bytes.{le32}
use Rattle.collection_model.specs.Collection.{docs_of}
use Rattle.word_files.specs.Given.{Gives}
use Rattle.word_files.proofs.PlaceByPlace.{before}
use Rattle.exported_files.proofs.sequences.give_docs_of.Given as goal

abbrev pub invariant-loop-doc : goal.invariant-loop-doc
invariant-loop-doc g l =
    let docs = docs_of (g.C.DocCursor.list l.fn.cursor) in
    (g.C.DocCursor.list l.cursor ≡ g.C.DocCursor.list l.fn.cursor)
    × Gives (before (le32 (length docs)) le32 docs (g.C.DocCursor.place l.cursor)) l.fn.writer l.writer (g.D.Depot.state l.fn.depot) (g.D.Depot.state l.depot) (Ok tt)

abbrev pub decreases-loop-doc : goal.decreases-loop-doc
decreases-loop-doc g l = length (g.C.DocCursor.list l.cursor) - g.C.DocCursor.place l.cursor
