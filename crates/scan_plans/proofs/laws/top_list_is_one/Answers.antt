use Rattle.scan_plans.proofs.Bests.{top-one}
use Rattle.scan_plans.proofs.laws.top_list_is_one.Goals as goal

pub returns : goal.returns
returns c = top-one
