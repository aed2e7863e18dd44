use Rattle.segments.proofs.RangesJoined.{ranges-are_joined}
use Rattle.segments.proofs.laws.ranges_are_joined.Goals as goal

pub returns : goal.returns
returns c = ranges-are_joined
