use Rattle.part_cost.specs.declared.formats.Format.TheVariants.{Three}
use Rattle.packed_list.proofs.ListBack.{lists-state-back}
use Rattle.packed_list.proofs.list_laws.lists_state_back.Goals as goal

pub returns : goal.returns
returns c =
    lists-state-back c.part_takes_its_payload.ensures.payload c.one_list_at_place.ensures.one c.one_list_at_place.ensures.values c.words_are_bits.ensures.appended c.words_are_bits.ensures.words
    (c.one_sequence.ensures Three) (c.words_state_their_sequence.ensures Three) (c.sequences_pass_checks.ensures Three)
    c.sequence_words_fit.ensures c.sequences_of_a_list_rise.ensures
