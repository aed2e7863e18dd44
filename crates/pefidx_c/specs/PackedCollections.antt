use Rattle.std.specs.Prelude.{◌≡◌, ◌≢◌, ◌⊎◌, ℕ, List, Result, Ok, Err, Some}
use Rattle.collection_model.specs.FormatNumbers.{format_three}
use Rattle.collection_model.specs.Collection.{Collection, WellFormed}
use Rattle.collection_model.specs.Spelling.{Files, spelled}
use Rattle.io_traits.specs.declared.fail.Slot.{Slot}
use Rattle.collection_reader.specs.declared.fault.Rule.{Rule}
use Rattle.collection_reader.specs.declared.fault.Rule.TheVariants.{C1, C2, C3, C4, C5, C6, C7, C8, C9, C10, C11, C12}
use Rattle.collection_reader.specs.declared.fault.Fault.{Fault}
use Rattle.collection_reader.specs.FirstFault.{IsFirstFault}
use Rattle.collection_reader.specs.Starting.{turn}
use Rattle.index_building.specs.declared.build.BuildError.{BuildError}
use Rattle.index_building.specs.declared.build.BuildError.TheVariants.{Broken, Read, TooLarge, NoMemory}
use Rattle.pefidx_c.specs.BuiltWords.{AreWordsOf, WouldBeTooMany}
use Rattle.pefidx_c.specs.declared.packing.CollectionFault.{CollectionFault}

-- the files of these bytes
abbrev pub files_given : List ℕ → List ℕ → List ℕ → Files
files_given docs freqs sizes = record { docs = docs; freqs = freqs; sizes = sizes }

-- The files spell this collection, which a packed file can hold.
pub record AreFilesOf (files : Files) (c : Collection) : Type 0 where
  pub well_formed : WellFormed format_three c
  pub spelled_so : files ≡ spelled c

-- the number of a rule
abbrev pub rule_number : Rule → ℕ
rule_number C1 = 1
rule_number C2 = 2
rule_number C3 = 3
rule_number C4 = 4
rule_number C5 = 5
rule_number C6 = 6
rule_number C7 = 7
rule_number C8 = 8
rule_number C9 = 9
rule_number C10 = 10
rule_number C11 = 11
rule_number C12 = 12

-- a broken rule as it is told; the files are numbered in the order in which they are started
abbrev pub collection_fault_of : Fault → CollectionFault
collection_fault_of fault = record {
  rule = rule_number fault.rule;
  file = turn fault.file;
  term = fault.term;
  place = fault.place;
}

-- What packing the collection of some files gives: the words of the collection that they spell, or
-- their first fault, or that there would be too many words, or want of memory.
pub record PacksFiles (files : Files) (result : Result (List ℕ) BuildError) : Type 0 where
  pub words : (made : List ℕ) → result ≡ Ok made
      → (c : Collection) × AreFilesOf files c × AreWordsOf format_three c made
  pub first_fault : (fault : Fault) → result ≡ Err (Broken fault)
      → IsFirstFault format_three files (Some fault)
  pub broken : (fault : Fault) → IsFirstFault format_three files (Some fault)
      → (result ≡ Err (Broken fault)) ⊎ (result ≡ Err NoMemory)
  pub too_large : (n : ℕ) → result ≡ Err (TooLarge n)
      → (c : Collection) × AreFilesOf files c × WouldBeTooMany format_three c n
  pub never_fails : (slot : Slot) → result ≢ Err (Read slot)
