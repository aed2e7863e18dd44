use Rattle.part_cost.proofs.DigitCounts.{digits-hold, digits-are-fewest}
use Rattle.part_cost.proofs.laws.digits_hold.Goals as goal

pub returns-clause-hold : goal.returns-clause-hold
returns-clause-hold c = digits-hold

pub returns-clause-fewest : goal.returns-clause-fewest
returns-clause-fewest c = digits-are-fewest
