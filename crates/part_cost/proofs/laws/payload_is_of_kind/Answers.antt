use Rattle.part_cost.proofs.Forms.{payload-of-kind}
use Rattle.part_cost.proofs.laws.payload_is_of_kind.Goals as goal

pub returns : goal.returns
returns c = payload-of-kind
