use Rattle.std.specs.Prelude.{◌≡◌, ℕ, ◌≤◌, ◌%◌, ◌==◌, not, IsTrue, List, length, MatchBool}
use Rattle.collection_model.specs.FormatNumbers.{FormatNumbers}
use Rattle.collection_model.specs.Collection.{Collection, WellFormed}
use Rattle.part_cost.specs.declared.formats.Format.{Format}
use Rattle.part_cost.specs.Formats.{numbers_of}
use Rattle.io_traits.specs.DepotState.{DepotState, bytes_under}
use Rattle.sequence_words.specs.declared.check.Check.TheVariants.{K1}
use Rattle.index_file.specs.declared.fault.OpenFault.{OpenFault}
use Rattle.index_file.specs.FileWords.{ListParts, file_words, ArePartitions}
use Rattle.index_file.specs.FirstBroken.{IsFirstBroken}
use Rattle.index_file.specs.Builder.{most_words}
use Rattle.command_model.specs.Found.{AreOfWords, most_bytes}

-- An index in this format, of this collection in these parts, which is not too large, stands under
-- the name, as far as the depot tells.
pub record FindsIndex (format : FormatNumbers) (name : List ℕ) (depot : DepotState)
    (c : Collection) (parts : List ListParts) : Type 0 where
  pub well_formed : WellFormed format c
  pub partitions : ArePartitions c.lists parts
  pub within : length (file_words format c parts) ≤ most_words
  pub bytes : IsTrue depot.tells → AreOfWords (bytes_under depot name) (file_words format c parts)

-- An index of this collection, in some format and some parts, stands under the name.
abbrev pub FindsIndexOf : List ℕ → DepotState → Collection → Type 0
FindsIndexOf name depot c =
    (format : Format) × (parts : List ListParts)
    × FindsIndex (numbers_of format) name depot c parts

-- The first check of a file's bytes that breaks: that they are whole words, and then the checks of
-- the words, in the format of their version.
abbrev pub IsFirstBrokenOfFile : List ℕ → OpenFault → Type 0
IsFirstBrokenOfFile bytes fault =
    MatchBool (not (length bytes % 8 == 0)) (fault ≡ record { check = K1; term = 0; part = 0 })
    ((words : List ℕ) × AreOfWords bytes words × IsFirstBroken words fault)

-- The file under the name is not too large, and this is its first check that breaks.
pub record HasBroken (name : List ℕ) (depot : DepotState) (fault : OpenFault) : Type 0 where
  pub within : length (bytes_under depot name) ≤ most_bytes
  pub first : IsFirstBrokenOfFile (bytes_under depot name) fault
