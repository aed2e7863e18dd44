use Rattle.part_cost.specs.Formats.{numbers_of}
use Rattle.sequence_words.proofs.Parts.{directory-states}
use Rattle.sequence_words.proofs.laws.directory_states_its_parts.Goals as goal

pub returns : goal.returns
returns c format =
    directory-states (numbers_of format) (c.formats_have_room.ensures format)
    (record {
      bits = c.part_takes_its_payload.ensures.bits;
      takes = c.part_takes_its_payload.ensures.payload;
      room = c.part_is_relative.ensures.room;
      within = c.part_is_relative.ensures.within;
      relative = c.part_is_relative.ensures.relative;
      short = c.parts_are_short.ensures.all;
    })
    c.words_are_bits.ensures.appended c.words_are_bits.ensures.bits
