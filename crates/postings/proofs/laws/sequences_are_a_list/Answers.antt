use Rattle.postings.proofs.Lists.{list-of_sequences}
use Rattle.postings.proofs.laws.sequences_are_a_list.Goals as goal

pub returns : goal.returns
returns c = list-of_sequences
