-- What a run leaves, from what its command left and what was reported.
use Rattle.std.proofs.Common.{arith, ◌≡◌, subst, ℕ, Result, Err, Option, None, IsOk}
use Rattle.pef_top.proofs.Names.{SourceState, SinkState, DepotState, Stop, Command, Outside, outside, Outcome, done, Performs, devices, LeavesUncalled, Leaves, Starts, Usage, IsUsage}
use Rattle.outcomes.specs.declared.status.Status.{Status}
use Rattle.outcomes.specs.Ends.{Ends}
use Rattle.pef_top.specs.Private.Reports.{Reports}

-- words that are no command
pub no_command : (d : DepotState) (i : SourceState) (o e e' : SinkState) (s : ℕ) → Leaves (Performs None) (Starts None) (outside d i o e s) (outside d i o e' s) (Err Usage)
no_command d i o e e' s = grind arith

pub is_ok : (ending : Result (Unit {0}) Stop) → ending ≡ done → IsOk ending
is_ok ending h = grind arith

-- One run.
module _ (command : Option Command) (old new : Outside) (outcome : Outcome) (result : Status)
    (leaves : Leaves (Performs command) (Starts command) old new outcome) (reports : Reports old.err new.err outcome result) where
  -- what holds whatever the command
  pub run_ends : Ends old new outcome result
  run_ends = grind arith

  -- words that are none end as usage
  is_usage : command ≡ None → outcome ≡ Err Usage
  is_usage none = let P : Option Command → Type 0 = λ c. Performs c old new outcome in (subst P none leaves.performs).usage

  pub usage_reported : command ≡ None → IsUsage old.err new.err result
  usage_reported none = let is : outcome ≡ Err Usage = is_usage none in grind arith

-- and call nothing but err
pub usage_uncalled : {D I O : Type 0} (command : Option Command) (accepted : Type 0) (outcome : Outcome) (d d' : D) (i i' : I) (o o' : O) → command ≡ None
    → LeavesUncalled command accepted outcome (devices d i o) (devices d' i' o') → (d' ≡ d) × (i' ≡ i) × (o' ≡ o)
usage_uncalled command accepted outcome d d' i i' o o' none leaves = grind arith
