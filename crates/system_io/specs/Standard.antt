use Rattle.std.specs.Prelude.{◌≡◌, ◌≢◌, ℕ, ◌≤◌, false, List, Option, length, take}
use Rattle.std.specs.Io.KnownBytes.{Appends}
use Rattle.io_traits.specs.declared.per_slot.PerSlot.{PerSlot}
use Rattle.io_traits.specs.PerSlot.{at_slot}
use Rattle.io_traits.specs.declared.fail.Slot.{Slot}
use Rattle.io_traits.specs.DepotState.{DepotState}

-- a depot of which nothing was called
pub record IsUntouched (state : DepotState) : Type 0 where
  pub none_started : (slot : Slot) → state.started slot ≡ false
  pub none_created : state.created ≡ false
  pub no_faults : (slot : Slot) → state.faults slot ≡ 0
  pub no_writing_faults : state.writing_faults ≡ 0
  pub no_create_faults : state.create_faults ≡ 0
  pub no_finish_faults : state.finish_faults ≡ 0
  pub no_starts : (slot : Slot) → (state.starts slot).count ≡ 0
  pub no_refusals : state.refusals ≡ 0

-- Known bytes grow by a prefix of the piece, of any length from none to all of it.
abbrev pub AppendsSome : Option (List ℕ) → Option (List ℕ) → List ℕ → Type 0
AppendsSome old new piece = (n : ℕ) × (n ≤ length piece) × Appends old new (take n piece)

-- All slots but this one have what they had.
abbrev pub SameBut : {A : Type 0} → Slot → PerSlot A → PerSlot A → Type 0
SameBut it old new = (slot : Slot) → slot ≢ it → at_slot new slot ≡ at_slot old slot
