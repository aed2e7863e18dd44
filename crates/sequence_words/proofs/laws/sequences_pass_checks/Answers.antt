use Rattle.std.proofs.Common.{sym, ap, ◌∙◌, length}
use Rattle.std.proofs.lemmas.List.{length-take-le}
use Rattle.part_cost.specs.Formats.{numbers_of}
use Rattle.sequence_words.proofs.Lengths.{PartLaws}
use Rattle.sequence_words.proofs.Follows.{fits-begun}
use Rattle.sequence_words.proofs.Parts.{used-is}
use Rattle.sequence_words.proofs.laws.sequences_pass_checks.Goals as goal

pub returns : goal.returns
returns c format m bound parts used xs ends words fits b =
    let room = c.formats_have_room.ensures format in
    let laws : PartLaws = record {
      bits = c.part_takes_its_payload.ensures.bits;
      takes = c.part_takes_its_payload.ensures.payload;
      room = c.part_is_relative.ensures.room;
      within = c.part_is_relative.ensures.within;
      relative = c.part_is_relative.ensures.relative;
      short = c.parts_are_short.ensures.all;
    } in
    let appended = c.words_are_bits.ensures.appended in
    let bits = c.words_are_bits.ensures.bits in (
      fits-begun (numbers_of format) room laws appended bits m bound parts used xs ends words fits b,
      sym (used-is (numbers_of format) room laws appended bits m bound parts used xs ends words fits b)
          ∙ sym (ap length b.sequence.spelled) ∙ length-take-le used words b.within,
    )
