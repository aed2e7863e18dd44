use Rattle.std.proofs.Common.{length, ap, arith}
use Rattle.bit_words.proofs.Value.{length-bits_of}
use Rattle.worked_codes.proofs.bit_lists.gives_fields.Goals as goal

pub next-requires : goal.next-requires
next-requires c = record {
  within = omega (arith, length-bits_of c.args.bits.now.words.now, ap length c.fields_from-fields.ensures.bits, c.fields_from-fields.ensures.at, c.fields_from-fields.ensures.width);
}

pub next-requires-2 : goal.next-requires-2
next-requires-2 c = record {
  within =
      omega (
        arith,
        length-bits_of c.args.bits.now.words.now,
        ap length c.fields_from-fields.ensures.bits,
        c.fields_from-fields.ensures.at,
        c.fields_from-fields.ensures.width,
        ap length c.next.ensures.bits,
        c.next.ensures.width,
        c.next.ensures.behind,
      );
}

pub next-requires-3 : goal.next-requires-3
next-requires-3 c = record {
  within =
      omega (
        arith,
        length-bits_of c.args.bits.now.words.now,
        ap length c.fields_from-fields.ensures.bits,
        c.fields_from-fields.ensures.at,
        c.fields_from-fields.ensures.width,
        ap length c.next.ensures.bits,
        c.next.ensures.width,
        c.next.ensures.behind,
        ap length c.next-2.ensures.bits,
        c.next-2.ensures.width,
        c.next-2.ensures.behind,
      );
}
