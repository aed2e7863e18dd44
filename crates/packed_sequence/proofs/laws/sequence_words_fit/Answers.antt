use Rattle.sequence_words.proofs.EntryLaws.{entry-fits}
use Rattle.packed_sequence.proofs.SequenceWordsFit.{sequence-words-fit}
use Rattle.packed_sequence.proofs.laws.sequence_words_fit.Goals as goal

pub returns : goal.returns
returns c = sequence-words-fit entry-fits c.part_takes_its_payload.ensures.bits c.parts_are_short.ensures.all
