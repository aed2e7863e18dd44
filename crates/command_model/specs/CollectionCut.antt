use Rattle.std.specs.Prelude.{ℕ, ◌+◌, ◌*◌, ◌≤◌, ◌==◌, if◌then◌else◌, List, length, sum_by}
use Rattle.std.specs.List.{All}
use Rattle.collection_model.specs.FormatNumbers.{FormatNumbers}
use Rattle.collection_model.specs.Collection.{Posting, Collection}
use Rattle.part_cost.specs.declared.formats.Format.{Format}
use Rattle.part_cost.specs.Formats.{numbers_of}
use Rattle.cost_windows.specs.WindowBounds.{window_bounds}
use Rattle.index_file.specs.FileWords.{ListParts, with_parts, ArePartitions}
use Rattle.index_file.specs.Builder.{IsNearCut}

-- Each sequence of a collection is cut near-cheapest.
pub record AreNear (format : FormatNumbers) (c : Collection) (parts : List ListParts) : Type 0 where
  pub partitions : ArePartitions c.lists parts
  pub near : All (IsNearCut format) (with_parts c.lists parts)

-- how many sequences of the lists are not empty: both of a list that has a posting
abbrev pub filled_sequences : List (List Posting) → ℕ
filled_sequences lists = sum_by (λ list. if length list == 0 then 0 else 2) lists

-- For both sequences of each list costs were counted: at least one where it is not empty, and at
-- most three a window for each number and one more.
pub record AreCounted (format : Format) (lists : List (List Posting)) (before after : ℕ) : Type 0
  where
    pub at_least : before + filled_sequences lists ≤ after
    pub at_most : after ≤ before + 6 * length (window_bounds format) * sum_by
        (λ list. length list + 1) lists

-- A collection of this property was cut into near-cheapest parts, each of which was counted.
pub record AreCut (format : Format) (Is : Collection → Type 0) (before after : ℕ) (c : Collection)
    (parts : List ListParts) : Type 0 where
  pub collection : Is c
  pub near : AreNear (numbers_of format) c parts
  pub counted : AreCounted format c.lists before after
