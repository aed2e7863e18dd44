use Rattle.cursor_api.proofs.Places.{next_geq-first, next_geq-one}
use Rattle.cursor_api.proofs.laws.next_geq_is_first.Goals as goal

pub returns : goal.returns
returns c = record { first = next_geq-first; one = next_geq-one }
