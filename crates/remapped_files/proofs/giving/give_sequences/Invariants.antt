use Rattle.std.proofs.Common.{[], Ok}
use Rattle.collection_model.specs.Bytes.{number_sequence}
use Rattle.word_files.specs.Given.{Gives}
use Rattle.word_files.proofs.PlaceByPlace.{before}
use Rattle.remapped_files.proofs.giving.give_sequences.Given as goal

abbrev pub invariant-loop-numbers : goal.invariant-loop-numbers
invariant-loop-numbers g l =
    Gives (before [] (λ v. number_sequence v.items) l.vectors l.numbers-index) l.fn.writer l.writer
    (g.D.Depot.state l.fn.depot) (g.D.Depot.state l.depot) (Ok tt)
