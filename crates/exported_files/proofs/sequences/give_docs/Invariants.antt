use Rattle.std.proofs.Common.{Ok}
use Rattle.collection_model.specs.Bytes.{number_sequence}
use Rattle.collection_model.specs.Collection.{docs_of}
use Rattle.collection_model.specs.Spelling.{head_bytes}
use Rattle.word_files.specs.Given.{Gives}
use Rattle.word_files.proofs.PlaceByPlace.{before}
use Rattle.exported_files.proofs.sequences.give_docs.Given as goal

abbrev pub invariant-loop-term : goal.invariant-loop-term
invariant-loop-term g l =
    let c = l.index.collection in
    Gives (before (head_bytes c.documents) (λ list. number_sequence (docs_of list)) c.lists l.term) l.fn.writer l.writer (g.D.Depot.state l.fn.depot) (g.D.Depot.state l.depot) (Ok tt)
