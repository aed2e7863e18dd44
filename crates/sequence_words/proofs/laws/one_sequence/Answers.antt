use Rattle.part_cost.specs.Formats.{numbers_of}
use Rattle.sequence_words.proofs.Stated.{one-sequence}
use Rattle.sequence_words.proofs.laws.one_sequence.Goals as goal

pub returns : goal.returns
returns c format =
    one-sequence (numbers_of format) (c.formats_have_room.ensures format)
    (record {
      bits = c.part_takes_its_payload.ensures.bits;
      takes = c.part_takes_its_payload.ensures.payload;
      room = c.part_is_relative.ensures.room;
      within = c.part_is_relative.ensures.within;
      relative = c.part_is_relative.ensures.relative;
      short = c.parts_are_short.ensures.all;
    })
    c.words_are_bits.ensures.appended c.words_are_bits.ensures.bits c.one_list_at_place.ensures.values
