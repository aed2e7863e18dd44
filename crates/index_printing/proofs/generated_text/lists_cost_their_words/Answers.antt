use Rattle.index_printing.proofs.PartCosts.{costs-at_most}
use Rattle.index_printing.proofs.generated_text.lists_cost_their_words.Goals as goal

pub returns : goal.returns
returns c =
    let i = c.args.index.now in
    costs-at_most c.part_takes_its_payload.ensures.payload i.format (c.formats_have_room.ensures i.format) (c.sequence_takes_its_cost.ensures i.format) c.sequences_of_a_list_rise.ensures
    i.collection i.parts c.stands_for_a_collection.ensures.well_formed c.stands_for_a_collection.ensures.partitions
