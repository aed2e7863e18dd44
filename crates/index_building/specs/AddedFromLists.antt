use Rattle.std.specs.Prelude.{◌≡◌, ℕ, List, ◌++◌}
use Rattle.collection_model.specs.Collection.{Posting, Collection}
use Rattle.part_cost.specs.declared.formats.Format.{Format}
use Rattle.index_file.specs.Builder.{Built}
use Rattle.index_building.specs.AddedFromFiles.{AreAdded}

-- The first lists of a collection were added; these are to come.
pub record IsMaking (format : Format) (c : Collection) (lists : List (List Posting)) (b : Built)
    (before after : ℕ) : Type 0 where
  pub first : List (List Posting)
  pub all : c.lists ≡ first ++ lists
  pub added : AreAdded format b c.documents first before after
