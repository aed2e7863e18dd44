use Rattle.cursor_api.proofs.FirstPosting.{first-is_next}
use Rattle.cursor_api.proofs.laws.first_is_at_the_next_place.Goals as goal

pub returns : goal.returns
returns c = first-is_next
