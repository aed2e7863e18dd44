use Rattle.std.specs.Prelude.{◌≡◌, ◌≢◌, ℕ, ◌⊎◌, IsTrue, List, Result, Ok, Err, IfOk}
use Rattle.collection_model.specs.Collection.{Collection}
use Rattle.collection_model.specs.Spelling.{spelled}
use Rattle.io_traits.specs.declared.fail.Slot.{Slot}
use Rattle.io_traits.specs.declared.fail.Slot.TheVariants.{Map}
use Rattle.io_traits.specs.Calls.{Rose}
use Rattle.io_traits.specs.DepotState.{DepotState, StartedOnce, NoneStartedTwice, OnlyReads}
use Rattle.collection_reader.specs.declared.fault.Fault.{Fault}
use Rattle.collection_reader.specs.declared.fault.CollError.{CollError}
use Rattle.collection_reader.specs.declared.fault.CollError.TheVariants as reading
use Rattle.collection_reader.specs.ReadCollection.{IsCollectionSlot}
use Rattle.collection_reader.specs.Starting.{StartedInTurn}
use Rattle.remap.specs.declared.fault.MapFault.{MapFault}
use Rattle.remap.specs.declared.fault.MapError.{MapError}
use Rattle.remap.specs.declared.fault.MapError.TheVariants as mapping
use Rattle.command_model.specs.Found.{FindsCollection, HasFault}
use Rattle.command_model.specs.FilesWritten.{NamedFile}
use Rattle.command_model.specs.FoundMap.{remap_numbers, IsCollectionOrMap, names_with_map, FindsBothOf, HasMapFault, OnImageFiles}
use Rattle.remapped_files.specs.declared.image.ImageError.{ImageError}
use Rattle.remapped_files.specs.declared.image.ImageError.TheVariants.{Broken, BrokenMap, Read, NoMemory}
use Rattle.remapped_files.specs.declared.files.ImageFiles as image
use Rattle.remapped_files.specs.NamedFiles.{files_named}

-- what a refusal of the reading of the collection is to the making of an image
abbrev pub image_error : CollError → ImageError
image_error (reading.Broken fault) = Broken fault
image_error (reading.Read slot) = Read slot
image_error reading.NoMemory = NoMemory

-- what a refusal of the reading of the map is
abbrev pub map_error : MapError → ImageError
map_error (mapping.Broken fault) = BrokenMap fault
map_error mapping.Read = Read Map
map_error mapping.NoMemory = NoMemory

-- the three files that are to be written
abbrev pub files_of : image.ImageFiles → List NamedFile
files_of files = files_named files.names (spelled files.image)

-- those of an answer
abbrev pub files_made : Result image.ImageFiles ImageError → Result (List NamedFile) ImageError
files_made (Ok files) = Ok (files_of files)
files_made (Err e) = Err e

-- What reading a collection and then an order of its documents, and making the files of the image,
-- gives.
pub record MakesImage (base map to : List ℕ) (old new : DepotState)
    (result : Result (List NamedFile) ImageError) : Type 0 where
  pub files : IfOk result (λ files. OnImageFiles base map to old (λ image. files ≡ image))
  -- A refusal of the collection names its first fault; a collection is not refused so, and a fault
  -- is found where no call fails before.
  pub first_fault : IsTrue old.tells → (fault : Fault) → result ≡ Err (Broken fault)
      → HasFault remap_numbers base old fault
  pub no_fault : IsTrue old.tells → (c : Collection) → FindsCollection remap_numbers base old c
      → (fault : Fault) → result ≢ Err (Broken fault)
  pub broken : IsTrue old.tells → (fault : Fault) → HasFault remap_numbers base old fault →
      (result ≡ Err (Broken fault)) ⊎ ((slot : Slot) × (result ≡ Err (Read slot)))
      ⊎ (result ≡ Err NoMemory)
  -- A refusal of the map, which is read once the collection is accepted, names its first fault, and
  -- is found so.
  pub first_map_fault : IsTrue old.tells → (fault : MapFault) → result ≡ Err (BrokenMap fault)
      → HasMapFault base map old fault
  pub no_map_fault : IsTrue old.tells → (c : Collection) → (ids : List ℕ)
      → FindsBothOf base map old c ids → (fault : MapFault) → result ≢ Err (BrokenMap fault)
  pub broken_map : IsTrue old.tells → (fault : MapFault) → HasMapFault base map old fault →
      (result ≡ Err (BrokenMap fault)) ⊎ ((slot : Slot) × (result ≡ Err (Read slot)))
      ⊎ (result ≡ Err NoMemory)
  pub accepted_at_map : (fault : MapFault) → result ≡ Err (BrokenMap fault)
      → (c : Collection) × FindsCollection remap_numbers base old c
  pub accepted_at_read : result ≡ Err (Read Map)
      → (c : Collection) × FindsCollection remap_numbers base old c
  -- The first call that fails ends the making; the four slots are started and read, and nothing
  -- else is called.
  pub read_only_where_it_rose : (slot : Slot) → result ≡ Err (Read slot)
      → IsCollectionOrMap slot × Rose (old.faults slot) (new.faults slot)
  pub count_rises_only_there : (slot : Slot)
      → (result ≡ Err (Read slot)) ⊎ (new.faults slot ≡ old.faults slot)
  pub reads : OnlyReads IsCollectionOrMap old new
  pub none_twice : NoneStartedTwice (names_with_map base map) old new
  pub in_turn : StartedInTurn (names_with_map base map) IsCollectionOrMap old new
  pub started_once : ((slot : Slot) → result ≢ Err (Read slot)) → result ≢ Err NoMemory
      → StartedOnce (names_with_map base map) IsCollectionSlot old new
  pub map_started_once : ((slot : Slot) → result ≢ Err (Read slot)) → result ≢ Err NoMemory
      → ((fault : Fault) → result ≢ Err (Broken fault))
      → StartedOnce (names_with_map base map) (λ slot. slot ≡ Map) old new
  pub map_not_started : (fault : Fault) → result ≡ Err (Broken fault)
      → new.starts Map ≡ old.starts Map
  pub refusals_rise_only_there : (result ≡ Err NoMemory) ⊎ (new.refusals ≡ old.refusals)
