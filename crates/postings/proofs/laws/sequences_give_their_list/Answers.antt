use Rattle.postings.proofs.Lists.{sequences-give_list}
use Rattle.postings.proofs.laws.sequences_give_their_list.Goals as goal

pub returns : goal.returns
returns c = sequences-give_list
