use Rattle.std.proofs.Common.{length, Ok}
use Rattle.collection_model.specs.Bytes.{le32}
use Rattle.word_files.specs.Given.{Gives}
use Rattle.word_files.proofs.PlaceByPlace.{before}
use Rattle.exported_files.proofs.sequences.give_sizes.Given as goal

abbrev pub invariant-loop-document : goal.invariant-loop-document
invariant-loop-document g l =
    let sizes = l.index.collection.sizes in
    Gives (before (le32 (length sizes)) le32 sizes l.document) l.fn.writer l.writer (g.D.Depot.state l.fn.depot) (g.D.Depot.state l.depot) (Ok tt)
