use Rattle.collection_reader.proofs.InTurn.{reads-in_turn}
use Rattle.collection_reader.proofs.laws.lists_are_read_in_turn.Goals as goal

pub returns : goal.returns
returns c = reads-in_turn
