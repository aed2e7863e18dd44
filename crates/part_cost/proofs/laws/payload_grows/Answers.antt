use Rattle.part_cost.proofs.Growth.{payload-grows}
use Rattle.part_cost.proofs.Parts.{parts-grow}
use Rattle.part_cost.proofs.laws.payload_grows.Goals as goal

pub returns-clause-plain : goal.returns-clause-plain
returns-clause-plain c = payload-grows

pub returns-clause-parts : goal.returns-clause-parts
returns-clause-parts c = parts-grow
