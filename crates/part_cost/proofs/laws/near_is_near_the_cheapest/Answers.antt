use Rattle.part_cost.proofs.Partitions.{near-is_near_the_cheapest}
use Rattle.part_cost.proofs.laws.near_is_near_the_cheapest.Goals as goal

pub returns : goal.returns
returns c = near-is_near_the_cheapest
