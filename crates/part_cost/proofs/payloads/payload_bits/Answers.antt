use Rattle.std.proofs.Common.{sym, arith}
use Rattle.part_cost.proofs.Forms.{payload-ones, payload-packed}
use Rattle.part_cost.proofs.payloads.payload_bits.Goals as goal

pub returns-then-m-u : goal.returns-then-m-u
returns-then-m-u c = sym (payload-ones c.args.u c.args.m c.if-m-u.true)

pub returns-else-m-u : goal.returns-else-m-u
returns-else-m-u c = omega (arith, payload-packed c.args.u c.args.m c.if-m-u.false)
