use Rattle.collection_model.proofs.NextBelow.{next-stop-at-first, one-count}
use Rattle.collection_model.proofs.laws.next_stop_at_first.Goals as goal

pub returns-clause-list : goal.returns-clause-list
returns-clause-list c = next-stop-at-first

pub returns-clause-one : goal.returns-clause-one
returns-clause-one c = one-count
