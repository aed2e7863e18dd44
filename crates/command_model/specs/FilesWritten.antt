-- Several files that are written one after the other.
use Rattle.std.specs.Prelude.{◌≡◌, ◌≢◌, ℕ, ◌<◌, ◌≤◌, ◌⊎◌, false, IsTrue, List, [], length, take, Some, slice_index_or}
use Rattle.std.specs.List.{All}
use Rattle.io_traits.specs.declared.fail.Slot.{Slot}
use Rattle.io_traits.specs.Calls.{Rose}
use Rattle.io_traits.specs.DepotState.{DepotState, SameSlots, SameStarts, SameWriting}
use Rattle.command_model.specs.Written.{IsBeingWritten}

-- a file that is written: its name and its bytes
pub record NamedFile : Type 0 where
  pub name : List ℕ
  pub bytes : List ℕ

-- file j of some
abbrev pub nth_file : List NamedFile → ℕ → NamedFile
nth_file files j = slice_index_or files j (record { name = []; bytes = [] })

-- No two of the files have one name.
abbrev pub AreApart : List NamedFile → Type 0
AreApart files = (i j : ℕ) → i < j → j < length files
    → (nth_file files i).name ≢ (nth_file files j).name

-- All files but these are as before.
abbrev pub SameOthers : List NamedFile → DepotState → DepotState → Type 0
SameOthers files old new = (name : List ℕ) → All (λ f. name ≢ f.name) files
    → new.file name ≡ old.file name

-- All these files have their bytes, all others are as before, and none is left created.
pub record AreWritten (files : List NamedFile) (old new : DepotState) : Type 0 where
  pub each : IsTrue old.tells → All (λ f. new.file f.name ≡ Some f.bytes) files
  pub others : IsTrue old.tells → SameOthers files old new
  pub none_created : new.created ≡ false

-- The files before this one have their bytes, this one is as before or has a prefix of its own, and
-- all the others are as before.
pub record AreWrittenUpTo (files : List NamedFile) (at : ℕ) (old new : DepotState) : Type 0 where
  pub within : at < length files
  pub before : IsTrue old.tells → (j : ℕ) → j < at
      → new.file (nth_file files j).name ≡ Some (nth_file files j).bytes
  pub this : IsTrue old.tells
      → (new.file (nth_file files at).name ≡ old.file (nth_file files at).name)
      ⊎ ((n : ℕ) × (new.file (nth_file files at).name ≡ Some (take n (nth_file files at).bytes)))
  pub behind : IsTrue old.tells → (j : ℕ) → at < j → j < length files
      → new.file (nth_file files j).name ≡ old.file (nth_file files j).name
  pub others : IsTrue old.tells → SameOthers files old new

-- This file was not begun: it is as before, and no name is being written but, before the first,
-- what was.
pub record IsNotBegun (files : List NamedFile) (at : ℕ) (old new : DepotState) : Type 0 where
  pub same : IsTrue old.tells
      → new.file (nth_file files at).name ≡ old.file (nth_file files at).name
  pub first : at ≡ 0 → SameWriting old new
  pub later : 0 < at → new.created ≡ false

-- Writing stopped at this file, which was not begun or is the one that is being written.
pub record StopsAtFile (files : List NamedFile) (at : ℕ) (old new : DepotState) : Type 0 where
  pub up_to : AreWrittenUpTo files at old new
  pub begun : IsNotBegun files at old new ⊎ IsBeingWritten (nth_file files at).name old new

-- What a failed call of the writing leaves of this file: a failed create nothing begun, any other
-- the file begun, and a failed finish all its bytes in it.
pub record FileLeftByFault (files : List NamedFile) (at : ℕ) (old new : DepotState) : Type 0 where
  pub create : old.create_faults < new.create_faults → IsNotBegun files at old new
  pub begun : ¬ Rose old.create_faults new.create_faults
      → IsBeingWritten (nth_file files at).name old new
  pub finish : old.finish_faults < new.finish_faults → IsTrue old.tells
      → new.file (nth_file files at).name ≡ Some (nth_file files at).bytes

-- Calls that only create, write and finish files were made.
pub record OnlyCreates (old new : DepotState) : Type 0 where
  pub tells : new.tells ≡ old.tells
  pub slots : SameSlots old new
  pub slot_counts : (slot : Slot) → new.faults slot ≡ old.faults slot
  pub never_falls : old.writing_faults ≤ new.writing_faults
  pub starts : SameStarts old new
