use Rattle.std.specs.Prelude.{◌≡◌, ◌≢◌, ◌⊎◌, ℕ, List, ◌++◌, IsTrue, codes, Some, Result, Ok, Err, IfOk, IfErr, OnOk}
use Rattle.collection_model.specs.FormatNumbers.{FormatNumbers}
use Rattle.collection_model.specs.Collection.{Collection, WellFormed}
use Rattle.collection_model.specs.Spelling.{Files, spelled}
use Rattle.io_traits.specs.declared.fail.Slot.{Slot}
use Rattle.io_traits.specs.Calls.{Rose}
use Rattle.io_traits.specs.DepotState.{DepotState, StartedOnce, NoneStartedTwice, OnlyReads, bytes_under}
use Rattle.collection_reader.specs.declared.fault.Fault.{Fault}
use Rattle.collection_reader.specs.declared.fault.CollError.{CollError}
use Rattle.collection_reader.specs.declared.fault.CollError.TheVariants.{Broken, Read, NoMemory}
use Rattle.collection_reader.specs.FirstFault.{IsFirstFault}
use Rattle.collection_reader.specs.Starting.{StartsInOrder, names_under}
pub use Rattle.collection_reader.specs.Starting.{IsCollectionSlot}

-- the bytes of the three files of a collection in a depot
abbrev pub files_at : DepotState → List ℕ → Files
files_at depot base = record {
  docs = bytes_under depot (base ++ codes ".docs");
  freqs = bytes_under depot (base ++ codes ".freqs");
  sizes = bytes_under depot (base ++ codes ".sizes");
}

-- What reading a collection with the limits of a format gives. Its answer is the collection that
-- the files spell, or their first fault, or a failed call.
pub record ReadsCollection (format : FormatNumbers) (old new : DepotState) (base : List ℕ)
    (result : Result Collection CollError) : Type 0 where
  pub well_formed : IfOk result (WellFormed format)
  pub spelled_so : IsTrue old.tells → IfOk result (λ c. files_at old base ≡ spelled c)
  pub no_fault : IsTrue old.tells → (c : Collection) → WellFormed format c
      → files_at old base ≡ spelled c → (fault : Fault) → result ≢ Err (Broken fault)
  pub faulty_is_refused : IsTrue old.tells → (fault : Fault)
      → IsFirstFault format (files_at old base) (Some fault) → (c : Collection) → result ≢ Ok c
  pub first_fault : IsTrue old.tells → (fault : Fault) → result ≡ Err (Broken fault)
      → IsFirstFault format (files_at old base) (Some fault)
  pub read_only_where_it_rose : (slot : Slot) → result ≡ Err (Read slot)
      → IsCollectionSlot slot × Rose (old.faults slot) (new.faults slot)
  pub count_rises_only_there : (slot : Slot)
      → (result ≡ Err (Read slot)) ⊎ (new.faults slot ≡ old.faults slot)
  pub reads : OnlyReads IsCollectionSlot old new
  pub in_order : IfErr result (StartsInOrder base old new)
  pub started_once : OnOk result (StartedOnce (names_under base) IsCollectionSlot old new)
  pub none_twice : NoneStartedTwice (names_under base) old new
  pub refusals_rise_only_there : (result ≡ Err NoMemory) ⊎ (new.refusals ≡ old.refusals)
