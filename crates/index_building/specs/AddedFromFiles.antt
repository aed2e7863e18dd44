use Rattle.std.specs.Prelude.{◌≡◌, ℕ, List, map}
use Rattle.collection_model.specs.Collection.{Posting}
use Rattle.part_cost.specs.declared.formats.Format.{Format}
use Rattle.part_cost.specs.Formats.{numbers_of}
use Rattle.io_traits.specs.DepotState.{DepotState}
use Rattle.collection_reader.specs.declared.phase.Phase.TheVariants.{Lists}
use Rattle.collection_reader.specs.Reading.{Reading}
use Rattle.collection_reader.specs.InTurn.{HasRead}
use Rattle.index_file.specs.FileWords.{CutList}
use Rattle.index_file.specs.Builder.{Built, StandsFor}
use Rattle.command_model.specs.CollectionCut.{AreCounted}
pub use Rattle.index_building.specs.WordsOfFiles.{build_error, finish_error}

-- What is built stands for these lists over n documents, in near-cheapest parts that were counted.
pub record AreAdded (format : Format) (b : Built) (n : ℕ) (lists : List (List Posting))
    (before after : ℕ) : Type 0 where
  pub cuts : List CutList
  pub format_is : b.format ≡ format
  pub documents : b.documents ≡ n
  pub stands : StandsFor b cuts
  pub lists_are : map (λ c. c.list) cuts ≡ lists
  pub counted : AreCounted format lists before after

-- Some lists were read under the base, and all were added.
pub record IsBuilding (format : Format) (base : List ℕ) (old now : DepotState) (reader : Reading)
    (b : Built) (before after : ℕ) : Type 0 where
  pub lists : List (List Posting)
  pub read : HasRead (numbers_of format) base old now reader lists Lists
  pub added : AreAdded format b reader.documents lists before after
