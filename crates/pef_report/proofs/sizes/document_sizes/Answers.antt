use Rattle.pef_report.specs.Generated.{generated}
use Rattle.pef_report.proofs.sizes.document_sizes.Goals as goal

pub returns : goal.returns
unfolding generated
returns c = λ seed t. c.in_ok-sizes_of.ensures
