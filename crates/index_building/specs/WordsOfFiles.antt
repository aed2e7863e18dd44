use Rattle.std.specs.Prelude.{◌≡◌, ◌≢◌, ℕ, ◌<◌, ◌≤◌, ◌⊎◌, IsTrue, List, length, Result, Ok, Err, IfOk, Vec}
use Rattle.std.specs.declared.alloc.Global.{Global}
use Rattle.collection_model.specs.Collection.{Collection}
use Rattle.part_cost.specs.declared.formats.Format.{Format}
use Rattle.part_cost.specs.Formats.{numbers_of}
use Rattle.io_traits.specs.declared.fail.Slot.{Slot}
use Rattle.io_traits.specs.Calls.{Rose}
use Rattle.io_traits.specs.DepotState.{DepotState, StartedOnce, NoneStartedTwice, OnlyReads}
use Rattle.collection_reader.specs.declared.fault.Fault.{Fault}
use Rattle.collection_reader.specs.declared.fault.CollError.{CollError}
use Rattle.collection_reader.specs.declared.fault.CollError.TheVariants as reading
use Rattle.collection_reader.specs.ReadCollection.{IsCollectionSlot}
use Rattle.collection_reader.specs.Starting.{StartedInTurn, names_under}
use Rattle.index_file.specs.declared.builder.FinishError.{FinishError}
use Rattle.index_file.specs.declared.builder.FinishError.TheVariants as finishing
use Rattle.index_file.specs.FileWords.{ListParts, file_words}
use Rattle.index_file.specs.Builder.{most_words}
use Rattle.index_building.specs.declared.build.BuildError.{BuildError}
use Rattle.index_building.specs.declared.build.BuildError.TheVariants.{Broken, Read, TooLarge, NoMemory}
use Rattle.command_model.specs.Found.{FindsCollection, HasFault}
use Rattle.command_model.specs.CollectionCut.{AreCut}

-- the words of a vector that was built
abbrev pub words_built : Result (Vec ℕ Global) BuildError → Result (List ℕ) BuildError
words_built (Ok words) = Ok words.items
words_built (Err e) = Err e

-- what a refusal of reading is to building: a fault, a failed call and want of memory each stay
-- what they are
abbrev pub build_error : CollError → BuildError
build_error (reading.Broken fault) = Broken fault
build_error (reading.Read slot) = Read slot
build_error reading.NoMemory = NoMemory

-- what a refusal of the last words is to building
abbrev pub finish_error : FinishError → BuildError
finish_error (finishing.TooLarge n) = TooLarge n
finish_error finishing.NoMemory = NoMemory

-- What building the words of a collection gives, with the counted costs before and after.
pub record BuildsWords (format : Format) (base : List ℕ) (old new : DepotState) (before after : ℕ)
    (result : Result (List ℕ) BuildError) : Type 0 where
  -- The words are the file words of the collection that is found, in near-cheapest parts, and at
  -- most so many.
  pub words : IfOk result (λ words. (length words ≤ most_words)
      × ((c : Collection) × (parts : List ListParts)
      × AreCut format (FindsCollection (numbers_of format) base old) before after c parts
      × (words ≡ file_words (numbers_of format) c parts)))
  -- A refusal of the files names their first fault; a collection is not refused so, and a fault is
  -- found where no call fails before.
  pub first_fault : IsTrue old.tells → (fault : Fault) → result ≡ Err (Broken fault)
      → HasFault (numbers_of format) base old fault
  pub no_fault : IsTrue old.tells → (c : Collection)
      → FindsCollection (numbers_of format) base old c → (fault : Fault)
      → result ≢ Err (Broken fault)
  pub broken : IsTrue old.tells → (fault : Fault) → HasFault (numbers_of format) base old fault →
      (result ≡ Err (Broken fault)) ⊎ ((slot : Slot) × (result ≡ Err (Read slot)))
      ⊎ (result ≡ Err NoMemory)
  -- The words of the collection that is found would be so many, and too many.
  pub too_large : (n : ℕ) → result ≡ Err (TooLarge n)
      → (most_words < n) × ((c : Collection) × (parts : List ListParts)
      × AreCut format (FindsCollection (numbers_of format) base old) before after c parts
      × (n ≡ length (file_words (numbers_of format) c parts)))
  -- The first call that fails ends the building, and the refusal names its slot.
  pub read_only_where_it_rose : (slot : Slot) → result ≡ Err (Read slot)
      → IsCollectionSlot slot × Rose (old.faults slot) (new.faults slot)
  pub count_rises_only_there : (slot : Slot)
      → (result ≡ Err (Read slot)) ⊎ (new.faults slot ≡ old.faults slot)
  -- The three files are read, and nothing else is called.
  pub reads : OnlyReads IsCollectionSlot old new
  -- None is started twice, or under another name than its own, and each is started exactly once
  -- where neither a call nor memory was refused.
  pub started_once : ((slot : Slot) → result ≢ Err (Read slot)) → result ≢ Err NoMemory
      → StartedOnce (names_under base) IsCollectionSlot old new
  pub none_twice : NoneStartedTwice (names_under base) old new
  -- They are started in their order: documents, frequencies, sizes.
  pub in_turn : StartedInTurn (names_under base) IsCollectionSlot old new
  -- The first memory that the depot is refused ends the building.
  pub refusals_rise_only_there : (result ≡ Err NoMemory) ⊎ (new.refusals ≡ old.refusals)
