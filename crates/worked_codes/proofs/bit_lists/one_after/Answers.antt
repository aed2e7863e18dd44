use Rattle.std.proofs.Common.{length, ap, arith, length-append}
use Rattle.bit_words.specs.Bits.{field_bits}
use Rattle.bit_words.proofs.Value.{length-field_bits}
use Rattle.worked_codes.proofs.bit_lists.one_after.Goals as goal

pub put_one_after-requires : goal.put_one_after-requires
put_one_after-requires c = record {
  room =
      omega (
        arith,
        c.requires.begun,
        c.requires.zeros,
        c.if-len-ne64.false,
        c.len.ensures,
        ap length c.in_ok-put.ensures.ok,
        length-append c.after-writer.result (field_bits c.args.begun 0),
        length-field_bits c.args.begun 0,
      );
}
