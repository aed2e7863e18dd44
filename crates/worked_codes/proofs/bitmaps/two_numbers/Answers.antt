use Rattle.std.proofs.Common.{[], ◌∷◌, length, refl, ap, rules, arith}
use Rattle.worked_codes.proofs.MapRows.{length-6}
use Rattle.worked_codes.proofs.bitmaps.two_numbers.Goals as goal

pub map_write-requires-clause-values : goal.map_write-requires-clause-values
map_write-requires-clause-values c = (0 ∷ 5 ∷ [], refl, search rules)

pub map_write-requires-clause-room : goal.map_write-requires-clause-room
map_write-requires-clause-room c = (0 ∷ 5 ∷ [], refl, omega (arith, length-6, ap length c.in_ok-writer.ensures.empty))
