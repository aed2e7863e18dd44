use Rattle.std.proofs.Common.{length, ap, arith}
use Rattle.two_level.proofs.cursor.SeqCursor.pass_below.Goals as goal

pub next-requires : goal.next-requires
next-requires c = record { within = omega (arith, c.go_below-count.ensures.place, c.go_below-count.ensures.within, ap (λ q. length q.values) c.go_below-count.ensures.sequence) }
