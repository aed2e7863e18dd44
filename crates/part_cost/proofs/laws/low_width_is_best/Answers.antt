use Rattle.part_cost.proofs.LowWidth.{low-width-is-best}
use Rattle.part_cost.proofs.laws.low_width_is_best.Goals as goal

pub returns : goal.returns
returns c = low-width-is-best
