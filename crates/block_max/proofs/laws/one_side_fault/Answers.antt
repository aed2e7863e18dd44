use Rattle.block_max.proofs.SideChecks.{none-breaks, one-fault}
use Rattle.block_max.proofs.laws.one_side_fault.Goals as goal

pub returns : goal.returns
returns c = record { none = none-breaks; one = one-fault }
