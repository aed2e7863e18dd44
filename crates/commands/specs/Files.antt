-- What the commands promise that write files.
use Rattle.std.specs.Prelude.{◌≡◌, ◌⊎◌, ℕ, IsTrue, List}
use Rattle.commands.specs.Names.{Collection, Format, Two, numbers_of, Index, Side, DepotState, ListParts, FindsCollection, Outside, Outcome, is_refusal, done, FindsIndex, FindsIndexOf, BuildsWordsThen, CollectionAt, IndexAt, IndexesAt, MapAt, Does, FindsSide, side_of, File, Files, Source, Finds, AreTooMany, Three, Wide}
use Rattle.collection_model.specs.Bytes.{word_bytes}
use Rattle.collection_model.specs.Spelling.{spelled}
use Rattle.remap.specs.Image.{IsImage}
use Rattle.command_line.specs.declared.words.FileKind.{FileKind}
use Rattle.command_line.specs.declared.words.FileKind.TheVariants.{Plain, Packed}
use Rattle.command_model.specs.FilesWritten.{NamedFile}
use Rattle.command_model.specs.FoundMap.{remap_numbers, FindsBothOf, OnImageFiles, files_under}
use Rattle.command_ends.specs.WrittenFile.{WritesFile}
use Rattle.command_ends.specs.WrittenFiles.{WritesFiles}
use Rattle.command_ends.specs.WrittenIndex.{WritesIndex}

-- A run builds the words of the collection of a source in a format, and writes them under the name.
abbrev pub MakesIndex : Source → Format → List ℕ → Outside → Outside → Outcome → Type 0
MakesIndex source format name old new =
    BuildsWordsThen format (Finds source old.depot) old new
    (WritesIndex format (Finds source old.depot) name old new)

-- `build BASE INDEX` reads a collection with the limits of a format and does so; what it writes is
-- then found as an index of that collection.
pub record Builds (format : Format) (base index : List ℕ) (old new : Outside) (outcome : Outcome)
    : Type 0 where
  pub does : Does (CollectionAt (numbers_of format) base) (File Index)
      (MakesIndex (CollectionAt (numbers_of format) base) format index) old new outcome
  pub opens : outcome ≡ done →
      (c : Collection) × FindsCollection (numbers_of format) base old.depot c
      × FindsIndexOf index new.depot c

-- the format in which an index is written anew, as a file of a kind
abbrev pub migrate_format : FileKind → Format
migrate_format Plain = Two
migrate_format Packed = Three

-- A run reads one or several indexes and does so;
-- what it writes is then found as an index of their collection.
pub record Rewrites (source : Source) (format : Format) (to : List ℕ) (old new : Outside)
    (outcome : Outcome) : Type 0 where
  pub does : Does source (File Index) (MakesIndex source format to) old new outcome
  pub opens : outcome ≡ done →
      (c : Collection) × Finds source old.depot c
      × ((parts : List ListParts) × FindsIndex (numbers_of format) to new.depot c parts)
  -- No part cost is counted before they are accepted, nor where they are refused, but that their
  -- new words are found to be too many by counting.
  pub unaccepted : ¬ ((c : Collection) × Finds source old.depot c) → new.costs ≡ old.costs
  pub refused : IsTrue (is_refusal outcome) →
      (new.costs ≡ old.costs) ⊎ AreTooMany format (Finds source old.depot) old.costs new.costs

-- `migrate OLD NEW`, in the second format, and `repack OLD NEW`, in the third,
-- do so with an index of any format.
abbrev pub Migrates : Format → List ℕ → List ℕ → Outside → Outside → Outcome → Type 0
Migrates format from = Rewrites (IndexAt from) format

-- `merge INDEX.. NEW` does so in the third format with indexes of any format, each of which is
-- accepted before the next is read, and which are joined with as many terms as the most.
abbrev pub Merges : List (List ℕ) → List ℕ → Outside → Outside → Outcome → Type 0
Merges names = Rewrites (IndexesAt Wide names) Three

-- An index stands under the name, and P holds of the bytes of its side file.
abbrev pub OnSideBytes : List ℕ → DepotState → (List ℕ → Type 0) → Type 0
OnSideBytes index depot P =
    (format : Format) × (c : Collection) × (parts : List ListParts)
    × FindsIndex (numbers_of format) index depot c parts × P (word_bytes (side_of c parts))

-- `blocks INDEX SIDE` reads an index, plain or packed,
-- and writes its side file under the other name; no part cost is counted.
pub record WritesBlocks (index side : List ℕ) (old new : Outside) (outcome : Outcome) : Type 0 where
  pub does : Does (IndexAt index) (File Side) (WritesFile Side side (OnSideBytes index old.depot))
      old new outcome
  pub opens : outcome ≡ done →
      (format : Format) × (c : Collection) × (parts : List ListParts)
      × FindsIndex (numbers_of format) index old.depot c parts × FindsSide side new.depot c parts
  pub costs : new.costs ≡ old.costs

-- A run writes the three files of the image, and ends so.
abbrev pub WritesImage : List ℕ → List ℕ → List ℕ → Outside → Outside → Outcome → Type 0
WritesImage base map to old new = WritesFiles (OnImageFiles base map to old.depot) old new

-- `remap BASE MAP NEW` reads a collection with the limits of the second format,
-- and an order of its documents, and writes the three files of its image under a new base,
-- where that is then found; no part cost is counted.
pub record Remaps (base map to : List ℕ) (old new : Outside) (outcome : Outcome) : Type 0 where
  pub does : Does (MapAt base map) Files (WritesImage base map to) old new outcome
  pub opens : outcome ≡ done →
      (c : Collection) × (ids : List ℕ) × (image : Collection)
      × FindsBothOf base map old.depot c ids × IsImage ids c image
      × FindsCollection remap_numbers to new.depot image
  pub costs : new.costs ≡ old.costs

-- P holds of the three files, under a base, of a collection of this property.
abbrev pub OnFilesOf : (Collection → Type 0) → List ℕ → (List NamedFile → Type 0) → Type 0
OnFilesOf Is base P = (c : Collection) × Is c × P (files_under base (spelled c))

-- A run writes the three files of the collection of an index that stands under a name, and ends so.
abbrev pub WritesCollection : List ℕ → List ℕ → Outside → Outside → Outcome → Type 0
WritesCollection index base old new =
    WritesFiles (OnFilesOf (FindsIndexOf index old.depot) base) old new

-- `export INDEX BASE` reads an index of any format,
-- and writes the three files of its collection under a base,
-- where that is then found with the limits of the second format; no part cost is counted.
pub record Exports (index base : List ℕ) (old new : Outside) (outcome : Outcome) : Type 0 where
  pub does : Does (IndexAt index) Files (WritesCollection index base) old new outcome
  pub opens : outcome ≡ done →
      (c : Collection) × FindsIndexOf index old.depot c
      × FindsCollection (numbers_of Two) base new.depot c
  pub costs : new.costs ≡ old.costs
