use Rattle.part_cost.proofs.Covers.{bounds-cover, bounds-rise, bounds-within}
use Rattle.part_cost.proofs.laws.bounds_cover.Goals as goal

pub returns-clause-rise : goal.returns-clause-rise
returns-clause-rise c = bounds-rise

pub returns-clause-within : goal.returns-clause-within
returns-clause-within c = bounds-within

pub returns-clause-cover : goal.returns-clause-cover
returns-clause-cover c = bounds-cover
