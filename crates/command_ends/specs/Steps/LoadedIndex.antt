use Rattle.std.specs.Prelude.{ℕ, List, [], ◌∷◌, Ok, Err}
use Rattle.part_cost.specs.Formats.{numbers_of}
use Rattle.io_traits.specs.DepotState.{DepotState}
use Rattle.io_traits.specs.declared.fail.Slot.TheVariants.{Index}
use Rattle.index_file.specs.PlainWords.{opening_magic}
use Rattle.index_file.specs.PackedWords.{packed_magic}
use Rattle.index_file.specs.IndexView.{IndexView}
use Rattle.word_files.specs.LoadWords.{LoadsKept}
use Rattle.outcomes.specs.declared.stop.Stop.{Stop}
use Rattle.outcomes.specs.Outcome.{Outcome}
use Rattle.command_ends.specs.FoundIndex.{FindsIndex}
use Rattle.command_ends.specs.Sources.{IndexAt, Starts}
use Rattle.command_ends.specs.Steps.AtSource.{IsRead, IsUnread}

-- the words with which an index begins
abbrev pub openings : List ℕ
openings = opening_magic ∷ packed_magic ∷ []

-- These words were loaded of the file under the name: all of them, or some where it begins as no
-- index does.
abbrev pub AreIndexWords : List ℕ → DepotState → DepotState → List ℕ → Type 0
AreIndexWords name old new words = LoadsKept openings Index name old new (Ok words)

-- This index stands under the name and was read,
-- and its file was started once however the run then ends.
pub record IsLoaded (name : List ℕ) (old new : DepotState) (index : IndexView) : Type 0 where
  pub found : FindsIndex (numbers_of index.format) name old index.collection index.parts
  pub read : IsRead (IndexAt name) old new
  pub starts : (outcome : Outcome) → Starts (IndexAt name) outcome old new

-- A run stops so that loaded no index.
abbrev pub IsUnloaded : List ℕ → DepotState → DepotState → Stop → Type 0
IsUnloaded name old new it = IsUnread (IndexAt name) old new (Err it)
