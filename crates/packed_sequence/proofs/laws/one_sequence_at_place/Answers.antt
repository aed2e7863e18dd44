use Rattle.part_cost.specs.declared.formats.Format.TheVariants.{Three}
use Rattle.packed_sequence.proofs.SequencePlaces.{one-at-place}
use Rattle.packed_sequence.proofs.laws.one_sequence_at_place.Goals as goal

pub returns : goal.returns
returns c =
    one-at-place c.part_takes_its_payload.ensures.payload c.one_list_at_place.ensures.one c.words_are_bits.ensures.appended c.words_are_bits.ensures.words (c.one_sequence.ensures Three) c.sequence_words_fit.ensures
