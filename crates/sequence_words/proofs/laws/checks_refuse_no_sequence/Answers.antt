use Rattle.part_cost.specs.Formats.{numbers_of}
use Rattle.sequence_words.proofs.Follows.{fits-begun, no-fault}
use Rattle.sequence_words.proofs.laws.checks_refuse_no_sequence.Goals as goal

pub returns : goal.returns
returns c format m bound parts used part check xs ends words fits b =
    no-fault (numbers_of format) words parts m bound check part
    (fits-begun (numbers_of format) (c.formats_have_room.ensures format)
    (record {
      bits = c.part_takes_its_payload.ensures.bits;
      takes = c.part_takes_its_payload.ensures.payload;
      room = c.part_is_relative.ensures.room;
      within = c.part_is_relative.ensures.within;
      relative = c.part_is_relative.ensures.relative;
      short = c.parts_are_short.ensures.all;
    })
    c.words_are_bits.ensures.appended c.words_are_bits.ensures.bits m bound parts used xs ends words fits b)
