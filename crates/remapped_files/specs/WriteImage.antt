use Rattle.std.specs.Prelude.{◌≡◌, ◌⊎◌, List, Result, Ok, Err, OnOk, IfErr}
use Rattle.io_traits.specs.declared.fail.IoFail.{IoFail}
use Rattle.io_traits.specs.declared.fail.IoFail.TheVariants.{Failed, NoMemory}
use Rattle.io_traits.specs.declared.fail.Slot.{Slot}
use Rattle.io_traits.specs.Calls.{Rose}
use Rattle.io_traits.specs.DepotState.{DepotState}
use Rattle.collection_reader.specs.ReadCollection.{IsCollectionSlot}
use Rattle.collection_reader.specs.Starting.{turn}
use Rattle.command_model.specs.FilesWritten.{NamedFile, AreWritten, StopsAtFile, FileLeftByFault, OnlyCreates}
use Rattle.remapped_files.specs.declared.writing.FileFail.{FileFail}
use Rattle.word_files.specs.WriteFile.{WritesBytes}

-- the refusal of the writing of a file, by its slot
abbrev pub file_fail : Slot → IoFail → FileFail
file_fail slot fail = record { slot = slot; fail = fail }

-- what writing one file gives, whatever its slot
abbrev pub io_of : Result (Unit {0}) FileFail → Result (Unit {0}) IoFail
io_of (Ok done) = Ok done
io_of (Err e) = Err e.fail

-- What writing a file gives, of which a refusal tells the slot.
pub record WritesNamed (slot : Slot) (file : NamedFile) (old new : DepotState)
    (result : Result (Unit {0}) FileFail) : Type 0 where
  pub writes : WritesBytes file.bytes file.name old new (io_of result)
  pub told : IfErr result (λ e. e.slot ≡ slot)
  pub memory : io_of result ≡ Err NoMemory → Rose old.refusals new.refusals

-- What writing the three files of a collection gives, one after the other. A refusal tells the slot
-- of the file at which it came.
pub record WritesFiles (files : List NamedFile) (old new : DepotState)
    (result : Result (Unit {0}) FileFail) : Type 0 where
  pub written : OnOk result (AreWritten files old new)
  pub stopped : IfErr result (λ e. IsCollectionSlot e.slot
      × StopsAtFile files (turn e.slot) old new)
  -- Which call failed is told by the counts of failed creates and finishes.
  pub failed : (slot : Slot) → result ≡ Err (file_fail slot Failed)
      → FileLeftByFault files (turn slot) old new
  -- The first call that fails ends the writing.
  pub write_only_where_it_rose : (slot : Slot) → result ≡ Err (file_fail slot Failed)
      → Rose old.writing_faults new.writing_faults
  pub count_rises_only_there : ((slot : Slot) × (result ≡ Err (file_fail slot Failed)))
      ⊎ (new.writing_faults ≡ old.writing_faults)
  pub create_count : ((slot : Slot) × (result ≡ Err (file_fail slot Failed)))
      ⊎ (new.create_faults ≡ old.create_faults)
  pub finish_count : ((slot : Slot) × (result ≡ Err (file_fail slot Failed)))
      ⊎ (new.finish_faults ≡ old.finish_faults)
  -- Only the depot takes memory, and the first memory that it is refused ends the writing.
  pub no_memory : (slot : Slot) → result ≡ Err (file_fail slot NoMemory)
      → Rose old.refusals new.refusals
  pub refusals_rise_only_there : ((slot : Slot) × (result ≡ Err (file_fail slot NoMemory)))
      ⊎ (new.refusals ≡ old.refusals)
  -- Files are created, written and finished, and nothing else is called.
  pub creates : OnlyCreates old new
