use Rattle.index_blocks.proofs.Short.{sides-fit}
use Rattle.index_blocks.proofs.laws.side_files_fit.Goals as goal

pub returns : goal.returns
returns c = sides-fit
