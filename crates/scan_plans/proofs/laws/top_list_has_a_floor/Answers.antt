use Rattle.scan_plans.proofs.Floors.{top-above_floor}
use Rattle.scan_plans.proofs.laws.top_list_has_a_floor.Goals as goal

pub returns : goal.returns
returns c = top-above_floor
