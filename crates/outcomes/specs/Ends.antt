use Rattle.std.specs.Prelude.{◌≡◌, ◌≢◌, ◌≤◌, ◌⊎◌, ℕ, Some, Err}
use Rattle.io_traits.specs.declared.fail.Slot.TheVariants.{Index}
use Rattle.io_traits.specs.Calls.{Rose}
use Rattle.outcomes.specs.declared.status.Status.{Status}
use Rattle.outcomes.specs.declared.stop.Stop.TheVariants.{NoMemory, TooLarge}
use Rattle.outcomes.specs.Outcome.{Outcome, done, fault_of, status_of, line_of}
use Rattle.outcomes.specs.Outside.{Outside, Count, failed, KeepsTelling, GotText}

-- A run ends by a fault of a count only where that rose, and it changes only where the run ends so.
pub record EndsByFault (count : Count) (outcome : Outcome) (before now : ℕ) : Type 0 where
  pub only_where_it_rose : fault_of outcome ≡ Some count → Rose before now
  pub changes_only_there : (fault_of outcome ≡ Some count) ⊎ (now ≡ before)
  pub never_falls : before ≤ now

-- The first call that fails ends the run, and the outcome names it.
pub record FirstFaultEnds (old new : Outside) (outcome : Outcome) : Type 0 where
  pub counts : (count : Count) → EndsByFault count outcome (failed count old) (failed count new)

-- what holds of every run, whatever its command: its status, its line on err, the counts of faults,
-- and that the objects go on telling
pub record Ends (old new : Outside) (outcome : Outcome) (result : Status) : Type 0 where
  pub status : result ≡ status_of outcome
  pub line : outcome ≢ done → GotText old.err new.err (line_of outcome)
  pub faults : FirstFaultEnds old new outcome
  pub telling : KeepsTelling old new

-- The outcome is this one, or memory was refused.
abbrev pub OrNoMemory : Outcome → Outcome → Type 0
OrNoMemory this outcome = (outcome ≡ this) ⊎ (outcome ≡ Err NoMemory)

-- The outcome is this one, or the words of an index are too many, or memory was refused.
abbrev pub OrTooLarge : Outcome → Outcome → Type 0
OrTooLarge this outcome = (outcome ≡ this) ⊎ (outcome ≡ Err (TooLarge Index))
    ⊎ (outcome ≡ Err NoMemory)
