-- A collection that is found with an order of its documents, and the files of its image.
use Rattle.std.specs.Prelude.{◌≡◌, ℕ, ◌⊎◌, ◌++◌, IsTrue, List, [], ◌∷◌, length, codes}
use Rattle.collection_model.specs.FormatNumbers.{FormatNumbers}
use Rattle.collection_model.specs.Bytes.{number_sequence}
use Rattle.collection_model.specs.Collection.{Collection}
use Rattle.collection_model.specs.Spelling.{Files, spelled}
use Rattle.part_cost.specs.declared.formats.Format.TheVariants.{Two}
use Rattle.part_cost.specs.Formats.{numbers_of}
use Rattle.io_traits.specs.declared.fail.Slot.{Slot}
use Rattle.io_traits.specs.declared.fail.Slot.TheVariants.{Map}
use Rattle.io_traits.specs.DepotState.{DepotState, bytes_under}
use Rattle.collection_reader.specs.ReadCollection.{IsCollectionSlot}
use Rattle.collection_reader.specs.Starting.{names_under}
use Rattle.remap.specs.declared.fault.MapFault.{MapFault}
use Rattle.remap.specs.NewIds.{AreNewIds}
use Rattle.remap.specs.Image.{IsImage}
use Rattle.remap.specs.MapFaults.{IsMapFault}
use Rattle.command_model.specs.Found.{FindsCollection}
use Rattle.command_model.specs.FilesWritten.{NamedFile}

-- the numbers of the format with whose limits a collection is read that is to be reordered
abbrev pub remap_numbers : FormatNumbers
remap_numbers = numbers_of Two

-- the slots from which a collection and a map are read
abbrev pub IsCollectionOrMap : Slot → Type 0
IsCollectionOrMap slot = IsCollectionSlot slot ⊎ (slot ≡ Map)

-- the names of their files
abbrev pub names_with_map : List ℕ → List ℕ → Slot → List ℕ
names_with_map base map Map = map
names_with_map base map slot = names_under base slot

-- The new ids of n documents stand under the name, as far as the depot tells.
pub record FindsMap (name : List ℕ) (n : ℕ) (depot : DepotState) (ids : List ℕ) : Type 0 where
  pub new_ids : AreNewIds ids
  pub each : length ids ≡ n
  pub bytes : IsTrue depot.tells → bytes_under depot name ≡ number_sequence ids

-- A collection stands under the base, and an order of its documents under the name.
pub record FindsBothOf (base map : List ℕ) (depot : DepotState) (c : Collection) (ids : List ℕ)
    : Type 0 where
  pub collection : FindsCollection remap_numbers base depot c
  pub order : FindsMap map c.documents depot ids

-- A collection stands under the base, and this is the first fault of the map.
abbrev pub HasMapFault : List ℕ → List ℕ → DepotState → MapFault → Type 0
HasMapFault base map depot fault = (c : Collection) × FindsCollection remap_numbers base depot c
    × IsMapFault c.documents (bytes_under depot map) fault

-- the three files of a collection under a base
abbrev pub files_under : List ℕ → Files → List NamedFile
files_under base files =
    record { name = base ++ codes ".docs"; bytes = files.docs }
    ∷ record { name = base ++ codes ".freqs"; bytes = files.freqs }
    ∷ record { name = base ++ codes ".sizes"; bytes = files.sizes }
    ∷ []

-- A collection and an order of its documents stand there, and P holds of the files of the image
-- under the new base.
abbrev pub OnImageFiles : List ℕ → List ℕ → List ℕ → DepotState → (List NamedFile → Type 0) → Type 0
OnImageFiles base map to depot P =
    (c : Collection) × (ids : List ℕ) × (image : Collection) × FindsBothOf base map depot c ids
    × IsImage ids c image × P (files_under to (spelled image))
