use Rattle.index_file.proofs.Both.{no-version-breaks}
use Rattle.index_file.proofs.laws.no_version_breaks.Goals as goal

pub returns : goal.returns
returns c = no-version-breaks
