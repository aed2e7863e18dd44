use Rattle.std.proofs.Common.{◌≡◌}
use Rattle.std.specs.Slice.Iter.{chunks_rest, chunks_size}
use Rattle.word_files.proofs.WrittenFile.{HasWritten}
use Rattle.word_files.proofs.writing.write_pieces.Given as goal

abbrev pub invariant-loop-part : goal.invariant-loop-part
invariant-loop-part g l =
    (goal.iterator-loop-part g).can_next l.part-iterator
    × (goal.iterator-loop-part g).is_finite l.part-iterator
    × (chunks_size l.part-iterator ≡ 1024)
    × HasWritten (g.D.Depot.state l.fn.depot) (g.D.Depot.state l.depot) l.fn.words (chunks_rest l.part-iterator)
