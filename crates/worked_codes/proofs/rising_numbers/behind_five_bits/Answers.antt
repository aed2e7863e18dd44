use Rattle.std.proofs.Common.{refl, ap, length, arith}
use Rattle.std.proofs.lemmas.List.{length-append}
use Rattle.bit_words.specs.Bits.{field_bits}
use Rattle.bit_words.proofs.Value.{length-field_bits}
use Rattle.worked_codes.proofs.EfRows.{few-bits}
use Rattle.worked_codes.proofs.rising_numbers.behind_five_bits.Goals as goal

pub ef_write-requires-clause-values : goal.ef_write-requires-clause-values
ef_write-requires-clause-values c = (c.args.values.now, refl, c.requires.values)

pub ef_write-requires-clause-room : goal.ef_write-requires-clause-room
ef_write-requires-clause-room c = (
  c.args.values.now,
  refl,
  omega (
    arith,
    few-bits 128 c.low_width_is_best.ensures c.args.u c.args.values.now c.requires.in_range c.requires.values c.requires.few,
    ap length c.in_ok-put.ensures.ok,
    length-append c.in_ok-writer.writer (field_bits 5 21),
    length-field_bits 5 21,
    ap length c.in_ok-writer.ensures.empty,
  ),
)
