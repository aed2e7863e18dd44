use Rattle.index_file.proofs.Spelled.{lists-counted}
use Rattle.index_file.proofs.laws.lists_are_counted.Goals as goal

pub returns : goal.returns
returns c = lists-counted
