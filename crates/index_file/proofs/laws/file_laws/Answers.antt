use Rattle.index_file.proofs.laws.file_laws.Goals as goal

pub returns : goal.returns
returns c = record {
  sequences = c.sequence_laws.ensures;
  appended = c.words_are_bits.ensures.appended;
  filled = c.words_are_bits.ensures.bits;
  whole = c.words_are_bits.ensures.words;
  same = c.words_are_bits.ensures.padded;
  part = c.part_takes_its_payload.ensures.bits;
  takes = c.part_takes_its_payload.ensures.payload;
  values = c.one_list_at_place.ensures.values;
  back = c.lists_state_back.ensures;
  short = c.lists_are_short.ensures;
  one_packed = c.one_packed_file.ensures;
}
