use Rattle.std.proofs.Common.{sym, arith}
use Rattle.part_cost.proofs.Forms.{kind-ones, kind-bitmap, kind-ef}
use Rattle.part_cost.proofs.payloads.kind.Goals as goal

pub returns-then-m-u : goal.returns-then-m-u
returns-then-m-u c = sym (kind-ones c.args.u c.args.m c.if-m-u.true)

pub returns-then-bitmap_payload_bits-ef_payload_bits : goal.returns-then-bitmap_payload_bits-ef_payload_bits
returns-then-bitmap_payload_bits-ef_payload_bits c = sym (kind-bitmap c.args.u c.args.m c.if-m-u.false (omega arith))

pub returns-else-bitmap_payload_bits-ef_payload_bits : goal.returns-else-bitmap_payload_bits-ef_payload_bits
returns-else-bitmap_payload_bits-ef_payload_bits c = sym (kind-ef c.args.u c.args.m c.if-m-u.false (omega arith))
