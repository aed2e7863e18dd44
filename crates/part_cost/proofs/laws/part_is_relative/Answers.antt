use Rattle.part_cost.proofs.Parts.{has-room, is-relative, is-within}
use Rattle.part_cost.proofs.laws.part_is_relative.Goals as goal

pub returns-clause-room : goal.returns-clause-room
returns-clause-room c = has-room

pub returns-clause-within : goal.returns-clause-within
returns-clause-within c = is-within

pub returns-clause-relative : goal.returns-clause-relative
returns-clause-relative c = is-relative
