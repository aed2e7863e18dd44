-- What is left at a source: a run ended there, or the source was read and is accepted.
use Rattle.std.specs.Prelude.{◌≡◌, ◌⊎◌, Bool, not, IsTrue, Err}
use Rattle.io_traits.specs.declared.fail.Slot.{Slot}
use Rattle.io_traits.specs.DepotState.{DepotState, OnlyReads}
use Rattle.outcomes.specs.Outside.{OfFile}
use Rattle.outcomes.specs.declared.stop.Stop.TheVariants.{NoMemory}
use Rattle.outcomes.specs.Outcome.{Outcome, is_refusal}
use Rattle.outcomes.specs.Ends.{EndsByFault}
use Rattle.command_ends.specs.Sources.{Source, Accepts, EndsAt, ReadsFrom, Refuses, Starts}

-- whether a run that ends so was not refused what it reads
abbrev pub was_read : Outcome → Bool
was_read outcome = not (is_refusal outcome)

-- A source was read and is accepted, so that no end is a refusal of it,
-- and no call on its files failed.
pub record IsRead (source : Source) (old mid : DepotState) : Type 0 where
  pub accepted : Accepts source old
  pub refuses : (outcome : Outcome) → Refuses source old outcome
  pub reads : OnlyReads (ReadsFrom source) old mid
  pub starts : (outcome : Outcome) → IsTrue (was_read outcome) → Starts source outcome old mid
  pub counts : (slot : Slot) → mid.faults slot ≡ old.faults slot

-- No file but those of a source was called.
pub record IsStill (source : Source) (old new : DepotState) (outcome : Outcome) : Type 0 where
  pub reads : OnlyReads (ReadsFrom source) old new
  pub starts : Starts source outcome old new
  pub files : (slot : Slot) → EndsByFault (OfFile slot) outcome (old.faults slot) (new.faults slot)

-- A run ended before its source was read, or memory was refused right behind that.
pub record IsUnread (source : Source) (old new : DepotState) (outcome : Outcome) : Type 0 where
  pub ends : EndsAt source old outcome ⊎ (outcome ≡ Err NoMemory)
  pub refuses : Refuses source old outcome
  pub still : IsStill source old new outcome
