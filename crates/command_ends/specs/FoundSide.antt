use Rattle.std.specs.Prelude.{◌≡◌, ℕ, ◌≤◌, ◌%◌, ◌==◌, ◌⊎◌, not, IsTrue, List, length, MatchBool}
use Rattle.collection_model.specs.Collection.{Collection}
use Rattle.part_cost.specs.declared.formats.Format.{Format}
use Rattle.part_cost.specs.Formats.{numbers_of}
use Rattle.io_traits.specs.declared.fail.Slot.{Slot}
use Rattle.io_traits.specs.declared.fail.Slot.TheVariants.{Side}
use Rattle.io_traits.specs.DepotState.{DepotState, bytes_under}
use Rattle.index_file.specs.FileWords.{ListParts}
use Rattle.block_max.specs.declared.fault.SideCheck.TheVariants.{S1}
use Rattle.block_max.specs.declared.fault.SideFault.{SideFault}
use Rattle.block_max.specs.Blocks.{BlockList}
use Rattle.block_max.specs.SideFaults.{IsFirstSideFault}
use Rattle.block_max.specs.SideWords.{side_words}
use Rattle.index_blocks.specs.BlockLists.{block_lists}
use Rattle.command_model.specs.Found.{AreOfWords, IsIndexSlot, most_bytes}
use Rattle.command_ends.specs.FoundIndex.{FindsIndex}

-- the slot of a side file
abbrev pub IsSideSlot : Slot → Type 0
IsSideSlot slot = slot ≡ Side

-- those of an index and a side file
abbrev pub IsIndexOrSide : Slot → Type 0
IsIndexOrSide slot = IsIndexSlot slot ⊎ IsSideSlot slot

-- the names of their files
abbrev pub names_with_side : List ℕ → List ℕ → Slot → List ℕ
names_with_side index side Side = side
names_with_side index side slot = index

-- the words of the side file of a collection in these parts
abbrev pub side_of : Collection → List ListParts → List ℕ
side_of c parts = side_words (block_lists c.lists parts)

-- That side file stands under the name, as far as the depot tells.
abbrev pub FindsSide : List ℕ → DepotState → Collection → List ListParts → Type 0
FindsSide name depot c parts =
    IsTrue depot.tells → AreOfWords (bytes_under depot name) (side_of c parts)

-- An index of this collection stands under one name, and its side file under another.
abbrev pub FindsWithSide : List ℕ → List ℕ → DepotState → Collection → Type 0
FindsWithSide index side depot c =
    (format : Format) × (parts : List ListParts)
    × FindsIndex (numbers_of format) index depot c parts × FindsSide side depot c parts

-- The first check that a file's bytes break as the side file of some lists: that they are whole
-- words, and then the checks of the words.
abbrev pub IsFirstSideFaultOfFile : List BlockList → List ℕ → SideFault → Type 0
IsFirstSideFaultOfFile lists bytes fault =
    MatchBool (not (length bytes % 8 == 0)) (fault ≡ record { check = S1; term = 0; part = 0 })
    ((words : List ℕ) × AreOfWords bytes words × IsFirstSideFault lists words fault)

-- An index stands under one name; the file under another is not too large, and this is the first
-- check that it breaks as its side file.
pub record HasBrokenSide (index side : List ℕ) (depot : DepotState) (fault : SideFault)
    : Type 0 where
  pub format : Format
  pub collection : Collection
  pub parts : List ListParts
  pub found : FindsIndex (numbers_of format) index depot collection parts
  pub within : length (bytes_under depot side) ≤ most_bytes
  pub first : IsFirstSideFaultOfFile (block_lists collection.lists parts)
      (bytes_under depot side) fault
