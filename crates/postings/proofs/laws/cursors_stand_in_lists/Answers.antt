use Rattle.postings.proofs.Lists.{list-of_cursor}
use Rattle.postings.proofs.laws.cursors_stand_in_lists.Goals as goal

pub returns : goal.returns
returns c = list-of_cursor
