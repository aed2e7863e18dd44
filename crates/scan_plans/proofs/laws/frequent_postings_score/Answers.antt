use Rattle.scan_plans.proofs.Floors.{scores-of_frequent}
use Rattle.scan_plans.proofs.laws.frequent_postings_score.Goals as goal

pub returns : goal.returns
returns c = scores-of_frequent
