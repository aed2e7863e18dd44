use Rattle.std.specs.Prelude.{◌≡◌}
use Rattle.io_traits.specs.DepotState.{DepotState}
use Rattle.outcomes.specs.Outside.{Outside}
use Rattle.outcomes.specs.Outcome.{Outcome}
use Rattle.outcomes.specs.Ends.{FirstFaultEnds}

-- What a command leaves, err apart: what it promises, the counts of faults, what it starts, and
-- that the objects go on telling.
pub record Leaves (Promises : Outside → Outside → Outcome → Type 0)
    (Starts : Outcome → DepotState → DepotState → Type 0) (old new : Outside) (outcome : Outcome)
    : Type 0 where
  pub performs : Promises old new outcome
  pub faults : FirstFaultEnds old new outcome
  pub starts : Starts outcome old.depot new.depot
  pub depot_tells : new.depot.tells ≡ old.depot.tells
  pub input_tells : new.input.tells ≡ old.input.tells
  pub out_tells : new.out.tells ≡ old.out.tells
