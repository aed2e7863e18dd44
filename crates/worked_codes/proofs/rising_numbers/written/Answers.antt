use Rattle.std.proofs.Common.{length, refl, ap, arith}
use Rattle.worked_codes.proofs.EfRows.{few-bits}
use Rattle.worked_codes.proofs.rising_numbers.written.Goals as goal

pub ef_write-requires-clause-values : goal.ef_write-requires-clause-values
ef_write-requires-clause-values g c = (c.args.values.now, refl, c.requires.values)

pub ef_write-requires-clause-room : goal.ef_write-requires-clause-room
ef_write-requires-clause-room g c = (
  c.args.values.now,
  refl,
  omega (
    arith,
    few-bits g.row.Q c.low_width_is_best.ensures c.args.u c.args.values.now c.requires.in_range c.requires.values c.requires.few,
    ap length c.in_ok-writer.ensures.empty,
  ),
)
