use Rattle.index_file.proofs.FileKinds.{index-is-read}
use Rattle.index_file.proofs.laws.index_is_read.Goals as goal

pub returns : goal.returns
returns c = index-is-read
