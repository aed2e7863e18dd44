use Rattle.std.specs.Prelude.{ℕ, List}
use Rattle.collection_model.specs.Bytes.{word_bytes}
use Rattle.collection_model.specs.Collection.{Collection}
use Rattle.part_cost.specs.declared.formats.Format.{Format}
use Rattle.part_cost.specs.Formats.{numbers_of}
use Rattle.io_traits.specs.declared.fail.Slot.TheVariants.{Index}
use Rattle.index_file.specs.FileWords.{ListParts, file_words}
use Rattle.outcomes.specs.Outside.{Outside}
use Rattle.outcomes.specs.Outcome.{Outcome}
use Rattle.command_ends.specs.WordsThen.{AreBuilt}
use Rattle.command_ends.specs.WrittenFile.{WritesFile}

-- The words of a collection of this property were built, and P holds of their bytes.
abbrev pub OnBuiltBytes : Format → (Collection → Type 0) → Outside → Outside
    → (List ℕ → Type 0) → Type 0
OnBuiltBytes format Is old new P =
    (c : Collection) × (parts : List ListParts) × AreBuilt format Is old.costs new.costs c parts
    × P (word_bytes (file_words (numbers_of format) c parts))

-- A run writes the words of a collection of this property under the name, and ends so.
abbrev pub WritesIndex : Format → (Collection → Type 0) → List ℕ → Outside → Outside → Outcome
    → Type 0
WritesIndex format Is name old new outcome =
    WritesFile Index name (OnBuiltBytes format Is old new) old new outcome
