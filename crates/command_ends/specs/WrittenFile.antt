use Rattle.std.specs.Prelude.{◌≡◌, ℕ, ◌⊎◌, IsTrue, List, Err, Ok}
use Rattle.io_traits.specs.declared.fail.Slot.{Slot}
use Rattle.io_traits.specs.Calls.{Rose}
use Rattle.io_traits.specs.DepotState.{DepotState, OnlyReads}
use Rattle.command_model.specs.Written.{IsWritten, IsUnwritten, IsWrittenInPart, IsBeingWritten, IsLeftByFault}
use Rattle.outcomes.specs.Outside.{Outside}
use Rattle.outcomes.specs.declared.stop.Stop.TheVariants.{WriteFault, NoMemory}
use Rattle.outcomes.specs.Outcome.{Outcome, is_refusal}

-- Nothing is written, or the name is still the one that is being written,
-- and a prefix of these bytes may stand under it.
abbrev pub IsLeftInPart : List ℕ → DepotState → DepotState → List ℕ → Type 0
IsLeftInPart name old new bytes =
    IsUnwritten old new ⊎ (IsBeingWritten name old new × IsWrittenInPart name old new bytes)

-- A run writes the file of a slot under the name, and ends so:
-- it gets the bytes of which OnBytes tells, or a prefix of them.
-- Want of memory may come before they are made, and behind the create only of the depot.
abbrev pub WritesFile : Slot → List ℕ → ((List ℕ → Type 0) → Type 0) → Outside → Outside
    → Outcome → Type 0
WritesFile slot name OnBytes old new (Ok u) = OnBytes (IsWritten name old.depot new.depot)
WritesFile slot name OnBytes old new (Err (WriteFault written)) =
    (written ≡ slot)
    × OnBytes (λ bytes.
    IsLeftInPart name old.depot new.depot bytes × IsLeftByFault name old.depot new.depot bytes)
WritesFile slot name OnBytes old new (Err NoMemory) =
    IsUnwritten old.depot new.depot
    ⊎ (Rose old.depot.refusals new.depot.refusals × OnBytes (IsLeftInPart name old.depot new.depot))
WritesFile slot name OnBytes old new outcome = ⊥

-- A run ends by the failed write of one of these files.
abbrev pub EndsByWriting : (Slot → Type 0) → Outcome → Type 0
EndsByWriting written outcome = (slot : Slot) × written slot × (outcome ≡ Err (WriteFault slot))

-- Only these slots are started and read; files are changed, and names created, only where what is
-- read is accepted and the run is not refused; a create or a finish fails only where the run ends
-- by the failed write of one of the files that are written.
pub record WritesOnlyAccepted (touched written : Slot → Type 0) (accepted : Type 0)
    (old new : Outside) (outcome : Outcome) : Type 0 where
  pub refused : IsTrue (is_refusal outcome) → OnlyReads touched old.depot new.depot
  pub unaccepted : ¬ accepted → OnlyReads touched old.depot new.depot
  pub stay_started : (slot : Slot) →
      IsTrue (old.depot.started slot) → IsTrue (new.depot.started slot)
  pub other_slots : (slot : Slot) → ¬ touched slot →
      (new.depot.started slot ≡ old.depot.started slot)
      × (IsTrue old.depot.tells → new.depot.left slot ≡ old.depot.left slot)
  pub create_count : EndsByWriting written outcome
      ⊎ (new.depot.create_faults ≡ old.depot.create_faults)
  pub finish_count : EndsByWriting written outcome
      ⊎ (new.depot.finish_faults ≡ old.depot.finish_faults)
