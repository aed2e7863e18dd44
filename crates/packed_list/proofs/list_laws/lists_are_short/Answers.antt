use Rattle.part_cost.specs.declared.formats.Format.TheVariants.{Three}
use Rattle.packed_list.proofs.ShortLists.{lists-are-short}
use Rattle.packed_list.proofs.list_laws.lists_are_short.Goals as goal

pub returns : goal.returns
returns c =
    lists-are-short c.part_takes_its_payload.ensures.payload (c.sequence_takes_its_cost.ensures Three) c.parts_are_short.ensures.part c.parts_are_short.ensures.all c.sequences_of_a_list_rise.ensures
