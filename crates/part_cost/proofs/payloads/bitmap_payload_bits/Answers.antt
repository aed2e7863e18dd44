use Rattle.std.proofs.Common.{ap, ◌+◌, ◌-◌, ◌*◌, ◌/◌}
use Rattle.part_cost.specs.Payload.{bitmap_payload}
use Rattle.part_cost.proofs.payloads.bitmap_payload_bits.Goals as goal

pub returns : goal.returns
unfolding bitmap_payload
returns c = ap (λ x. c.args.u + (c.args.u - 1) / 512 * x) c.digits.ensures
