use Rattle.index_file.proofs.Both.{one-broken-check}
use Rattle.index_file.proofs.laws.one_broken_check.Goals as goal

pub returns : goal.returns
returns c = one-broken-check c.file_laws.ensures
