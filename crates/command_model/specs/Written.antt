use Rattle.std.specs.Prelude.{◌≡◌, ℕ, ◌≤◌, ◌<◌, ◌⊎◌, false, IsTrue, List, take, Some}
use Rattle.io_traits.specs.declared.fail.Slot.{Slot}
use Rattle.io_traits.specs.Calls.{Rose}
use Rattle.io_traits.specs.DepotState.{DepotState, SameFiles, SameFilesBut, SameSlots, SameStarts, SameWriting}

-- The file has these bytes, all others are as before, and none is left created.
pub record IsWritten (name : List ℕ) (old new : DepotState) (bytes : List ℕ) : Type 0 where
  pub file : IsTrue old.tells → new.file name ≡ Some bytes
  pub others : IsTrue old.tells → SameFilesBut name old new
  pub none_created : new.created ≡ false

-- All files are as before, and so is what is being written.
pub record IsUnwritten (old new : DepotState) : Type 0 where
  pub files : IsTrue old.tells → SameFiles old new
  pub writing : SameWriting old new

-- Nothing is written, or the file has a prefix of these bytes and all others are as before.
abbrev pub IsWrittenInPart : List ℕ → DepotState → DepotState → List ℕ → Type 0
IsWrittenInPart name old new bytes =
    IsUnwritten old new ⊎ (IsTrue old.tells
    → (n : ℕ) × (new.file name ≡ Some (take n bytes)) × SameFilesBut name old new)

-- The file is begun and not finished: it is the one that is being written.
pub record IsBeingWritten (name : List ℕ) (old new : DepotState) : Type 0 where
  pub created : IsTrue new.created
  pub named : IsTrue old.tells → new.name ≡ name

-- What a failed call of the writing leaves: a failed create all as before, any other the file
-- begun, and a failed finish all of the bytes in it.
pub record IsLeftByFault (name : List ℕ) (old new : DepotState) (bytes : List ℕ) : Type 0 where
  pub create : old.create_faults < new.create_faults → IsUnwritten old new
  pub begun : ¬ Rose old.create_faults new.create_faults → IsBeingWritten name old new
  pub finish : old.finish_faults < new.finish_faults → IsTrue old.tells → new.file name ≡ Some bytes

-- Calls that only create, write and finish this name were made.
pub record OnlyWrites (name : List ℕ) (old new : DepotState) : Type 0 where
  pub tells : new.tells ≡ old.tells
  pub other_files : IsTrue old.tells → SameFilesBut name old new
  pub slots : SameSlots old new
  pub slot_counts : (slot : Slot) → new.faults slot ≡ old.faults slot
  pub never_falls : old.writing_faults ≤ new.writing_faults
  pub creates_never_fall : old.create_faults ≤ new.create_faults
  pub finishes_never_fall : old.finish_faults ≤ new.finish_faults
  pub starts : SameStarts old new
  pub refusals_never_fall : old.refusals ≤ new.refusals
