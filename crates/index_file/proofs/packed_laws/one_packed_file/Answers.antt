use Rattle.index_file.proofs.OnePackedFile.{one-packed-file}
use Rattle.index_file.proofs.packed_laws.one_packed_file.Goals as goal

pub returns : goal.returns
returns c =
    one-packed-file c.words_are_bits.ensures.bits c.part_takes_its_payload.ensures.bits c.part_takes_its_payload.ensures.payload c.one_list_at_place.ensures.one c.one_packed_list.ensures
