use Rattle.std.specs.Prelude.{◌≡◌, ℕ, ◌≤◌, ◌<◌, List, length, Err}
use Rattle.collection_model.specs.Collection.{Collection}
use Rattle.part_cost.specs.declared.formats.Format.{Format}
use Rattle.part_cost.specs.Formats.{numbers_of}
use Rattle.io_traits.specs.declared.fail.Slot.TheVariants.{Index}
use Rattle.index_file.specs.FileWords.{ListParts, file_words}
use Rattle.index_file.specs.Builder.{most_words}
use Rattle.command_model.specs.CollectionCut.{AreCut}
use Rattle.outcomes.specs.Outside.{Outside}
use Rattle.outcomes.specs.declared.stop.Stop.TheVariants.{TooLarge}
use Rattle.outcomes.specs.Outcome.{Outcome}

-- The words of a collection of this property were built, and they are not too many.
pub record AreBuilt (format : Format) (Is : Collection → Type 0) (before after : ℕ)
    (c : Collection) (parts : List ListParts) : Type 0 where
  pub cut : AreCut format Is before after c parts
  pub within : length (file_words (numbers_of format) c parts) ≤ most_words

-- Its words would be too many.
abbrev pub AreTooMany : Format → (Collection → Type 0) → ℕ → ℕ → Type 0
AreTooMany format Is before after =
    (c : Collection) × (parts : List ListParts) × AreCut format Is before after c parts
    × (most_words < length (file_words (numbers_of format) c parts))

-- A run builds the words of a collection of this property.
-- It ends as they are too many, or goes on, and ends so.
abbrev pub BuildsWordsThen : Format → (Collection → Type 0) → Outside → Outside
    → (Outcome → Type 0) → Outcome → Type 0
BuildsWordsThen format Is old new Then (Err (TooLarge slot)) =
    (slot ≡ Index) × AreTooMany format Is old.costs new.costs
BuildsWordsThen format Is old new Then outcome = Then outcome
