use Rattle.part_cost.proofs.Growth.{one-number-is-short}
use Rattle.part_cost.proofs.Parts.{single-is-allowed}
use Rattle.part_cost.proofs.Singles.{singles-are-allowed}
use Rattle.part_cost.proofs.laws.single_is_allowed.Goals as goal

pub returns-clause-short : goal.returns-clause-short
returns-clause-short c = one-number-is-short

pub returns-clause-allowed : goal.returns-clause-allowed
returns-clause-allowed c = single-is-allowed

pub returns-clause-all : goal.returns-clause-all
returns-clause-all c = singles-are-allowed
