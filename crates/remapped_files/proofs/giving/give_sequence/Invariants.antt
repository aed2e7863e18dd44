use Rattle.std.proofs.Common.{length, Ok}
use Rattle.collection_model.specs.Bytes.{le32}
use Rattle.word_files.specs.Given.{Gives}
use Rattle.word_files.proofs.PlaceByPlace.{before}
use Rattle.remapped_files.proofs.giving.give_sequence.Given as goal

abbrev pub invariant-loop-number : goal.invariant-loop-number
invariant-loop-number g l =
    Gives (before (le32 (length l.numbers)) le32 l.numbers l.number-index) l.fn.writer l.writer
    (g.D.Depot.state l.fn.depot) (g.D.Depot.state l.depot) (Ok tt)
