use Rattle.part_cost.specs.declared.formats.Format.TheVariants.{Three}
use Rattle.packed_list.proofs.OneListBits.{one-packed-list}
use Rattle.packed_list.proofs.list_laws.one_packed_list.Goals as goal

pub returns : goal.returns
returns c =
    one-packed-list c.part_takes_its_payload.ensures.payload c.one_list_at_place.ensures.one c.words_are_bits.ensures.appended c.words_are_bits.ensures.words (c.one_sequence.ensures Three)
    c.sequence_words_fit.ensures c.sequences_give_their_list.ensures c.sequences_of_a_list_rise.ensures
