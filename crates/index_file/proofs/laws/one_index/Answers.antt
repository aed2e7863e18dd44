use Rattle.index_file.proofs.Both.{one-index}
use Rattle.index_file.proofs.laws.one_index.Goals as goal

pub returns : goal.returns
returns c = one-index c.file_laws.ensures
