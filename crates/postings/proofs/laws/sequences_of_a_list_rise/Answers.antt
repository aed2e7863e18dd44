use Rattle.postings.proofs.Lists.{sequences-of_list}
use Rattle.postings.proofs.laws.sequences_of_a_list_rise.Goals as goal

pub returns : goal.returns
returns c = sequences-of_list
