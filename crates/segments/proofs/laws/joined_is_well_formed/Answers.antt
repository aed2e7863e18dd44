use Rattle.segments.proofs.JoinedWell.{joined-well_formed}
use Rattle.segments.proofs.laws.joined_is_well_formed.Goals as goal

pub returns : goal.returns
returns c = joined-well_formed
