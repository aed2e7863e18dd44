use Rattle.std.specs.Prelude.{◌≡◌, ℕ, ◌⊎◌, List, Err, ◌≢◌, Ok}
use Rattle.commands.specs.Names.{Side, DepotState, Stop, stop_of_loading}
use Rattle.block_max.specs.declared.fault.SideCheck.TheVariants.{S1}
use Rattle.block_max.specs.declared.fault.SideFault.{SideFault}
use Rattle.block_max.specs.Blocks.{BlockList}
use Rattle.block_max.specs.SideFaults.{IsFirstSideFault}
use Rattle.block_max.specs.SideWords.{side_words}
use Rattle.word_files.specs.declared.loading.LoadWordsError.{LoadWordsError}
use Rattle.word_files.specs.LoadWords.{LoadsWords}
use Rattle.outcomes.specs.declared.stop.Stop.TheVariants as stop

-- These words were loaded from the file under the name, and are the side words of some lists.
pub record IsLoadedSide (lists : List BlockList) (name : List ℕ) (old new : DepotState)
    (words : List ℕ) : Type 0 where
  pub loads : LoadsWords Side name old new (Ok words)
  pub side : words ≡ side_words lists

-- Words were loaded that are not, of which this is the first check that breaks.
pub record IsNoSide (lists : List BlockList) (name : List ℕ) (old new : DepotState)
    (fault : SideFault) : Type 0 where
  pub words : List ℕ
  pub loads : LoadsWords Side name old new (Ok words)
  pub no_side : words ≢ side_words lists
  pub first : IsFirstSideFault lists words fault

-- the fault of a side file that is no whole words
abbrev pub ragged_side : SideFault
ragged_side = record { check = S1; term = 0; part = 0 }

-- where a run stops that could not load the words of its side file
abbrev pub stop_of_side : LoadWordsError → Stop
stop_of_side error = stop_of_loading Side (stop.BrokenSide ragged_side) error

-- Where a run stops that loaded no side file of some lists: no words were loaded, or they are none.
abbrev pub IsUnloadedSide : List BlockList → List ℕ → DepotState → DepotState → Stop → Type 0
IsUnloadedSide lists name old new it =
    ((error : LoadWordsError) × LoadsWords Side name old new (Err error)
    × (it ≡ stop_of_side error))
    ⊎ ((fault : SideFault) × IsNoSide lists name old new fault × (it ≡ stop.BrokenSide fault))
