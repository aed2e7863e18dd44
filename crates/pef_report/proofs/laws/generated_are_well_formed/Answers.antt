use Rattle.pef_report.proofs.Collections.{generated-well_formed}
use Rattle.pef_report.proofs.laws.generated_are_well_formed.Goals as goal

pub returns : goal.returns
returns c = generated-well_formed
