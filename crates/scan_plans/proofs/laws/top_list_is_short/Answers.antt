use Rattle.scan_plans.proofs.Few.{top-of_few}
use Rattle.scan_plans.proofs.laws.top_list_is_short.Goals as goal

pub returns : goal.returns
returns c = top-of_few
