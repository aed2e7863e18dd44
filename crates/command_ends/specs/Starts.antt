use Rattle.std.specs.Prelude.{◌≡◌, ◌≢◌, ◌⊎◌, ℕ, List, Err}
use Rattle.io_traits.specs.declared.fail.Slot.{Slot}
use Rattle.io_traits.specs.DepotState.{DepotState, StartedOnce, NoneStartedTwice}
use Rattle.collection_reader.specs.Starting.{StartedInTurn}
use Rattle.outcomes.specs.declared.stop.Stop.TheVariants.{FileFault, NoMemory}
use Rattle.outcomes.specs.Outcome.{Outcome}

-- What a run that reads the files of these names from these slots starts,
-- and what memory its depot is refused.
pub record StartsOnly (names : Slot → List ℕ) (slots : Slot → Type 0) (outcome : Outcome)
    (old new : DepotState) : Type 0 where
  -- No slot is started twice, or under another name than its own, and no other is started.
  pub none_twice : NoneStartedTwice names old new
  pub no_others : (slot : Slot) → ¬ slots slot → new.starts slot ≡ old.starts slot
  -- Each is started exactly once, but where a call on a file failed or memory was refused.
  pub once : ((slot : Slot) → outcome ≢ Err (FileFault slot)) → outcome ≢ Err NoMemory
      → StartedOnce names slots old new
  -- They are started in their order: none before those that come before it.
  pub in_turn : StartedInTurn names slots old new
  -- The first memory that the depot is refused ends the run.
  pub refusals : (outcome ≡ Err NoMemory) ⊎ (new.refusals ≡ old.refusals)
