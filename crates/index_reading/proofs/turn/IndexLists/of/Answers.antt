use Rattle.index_reading.proofs.InTurn.{taken-none}
use Rattle.index_reading.proofs.turn.IndexLists.of.Goals as goal

pub returns-clause-start : goal.returns-clause-start
returns-clause-start c = taken-none c.lists_in_turn.result c.lists_in_turn.ensures.empty
