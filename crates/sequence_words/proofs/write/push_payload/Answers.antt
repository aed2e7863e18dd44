use Rattle.std.proofs.Common.{◌≡◌, length, ap, ◌∙◌, arith, rules}
use Rattle.std.proofs.lemmas.Result.{on_ok_weaker, on_err_weaker}
use Rattle.bit_words.specs.Bits.{bits_of}
use Rattle.bit_words.proofs.Value.{length-bits_of}
use Rattle.sequence_words.specs.SequenceWords.{payload_from}
use Rattle.sequence_words.proofs.Lengths.{PartLaws, bits-payload}
use Rattle.sequence_words.proofs.Writing.{whole-short, words-written, prefix-written}
use Rattle.sequence_words.proofs.write.push_payload.Goals as goal
use Rattle.sequence_words.proofs.write.push_payload.Goals.{After-after-bits}

laws : (c : After-after-bits) → PartLaws
laws c = record {
  bits = c.part_takes_its_payload.ensures.bits;
  takes = c.part_takes_its_payload.ensures.payload;
  room = c.part_is_relative.ensures.room;
  within = c.part_is_relative.ensures.within;
  relative = c.part_is_relative.ensures.relative;
  short = c.parts_are_short.ensures.all;
}

-- the bits of the words that were there
from : (c : After-after-bits) → c.after-bits.result ≡ bits_of c.args.to.now.items
from c = c.after-bits.ensures ∙ ap (λ v. bits_of v.items) c.replace.ensures.value

pub write_parts-written-requires-clause-room : goal.write_parts-written-requires-clause-room
write_parts-written-requires-clause-room c =
    let short = whole-short (laws (goal.at.write_parts-written-requires-clause-room c).After-after-bits) c.args.values.now c.requires.rising c.requires.below c.args.ends.now c.requires.partition in
    omega (arith, short, ap length (from (goal.at.write_parts-written-requires-clause-room c).After-after-bits), length-bits_of c.args.to.now.items, c.requires.room)

pub returns-clause-ok : goal.returns-clause-ok
returns-clause-ok c =
    on_ok_weaker c.write_parts-written.result
    (λ e.
    words-written c.args.to.now.items c.into_words.result.items c.after-bits.result c.write_parts-written.new.bits (payload_from c.args.values.now 0 c.args.ends.now) (search rules)
    (bits-payload (laws (goal.at.returns-clause-ok c).After-after-bits) c.args.values.now 0 c.args.ends.now) (from (goal.at.returns-clause-ok c).After-after-bits) e c.into_words.ensures)
    c.write_parts-written.ensures.ok

pub returns-clause-err : goal.returns-clause-err
returns-clause-err c =
    on_err_weaker c.write_parts-written.result
    (λ e.
    prefix-written c.args.to.now.items c.into_words.result.items c.after-bits.result c.write_parts-written.new.bits (payload_from c.args.values.now 0 c.args.ends.now) (search rules)
    (bits-payload (laws (goal.at.returns-clause-err c).After-after-bits) c.args.values.now 0 c.args.ends.now) (from (goal.at.returns-clause-err c).After-after-bits) e c.into_words.ensures)
    c.write_parts-written.ensures.err
