use Rattle.std.proofs.Common.{[], Ok}
use Rattle.collection_model.specs.Bytes.{number_sequence}
use Rattle.collection_model.specs.Collection.{freqs_of}
use Rattle.word_files.specs.Given.{Gives}
use Rattle.word_files.proofs.PlaceByPlace.{before}
use Rattle.exported_files.proofs.sequences.give_freqs.Given as goal

abbrev pub invariant-loop-term : goal.invariant-loop-term
invariant-loop-term g l = Gives (before [] (λ list. number_sequence (freqs_of list)) l.index.collection.lists l.term) l.fn.writer l.writer (g.D.Depot.state l.fn.depot) (g.D.Depot.state l.depot) (Ok tt)
