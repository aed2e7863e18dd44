use Rattle.std.specs.Prelude.{◌≡◌, ℕ, suc, ◌<◌, ◌≤◌, List, map, take, Option, Some, None}
use Rattle.std.specs.List.{All}
use Rattle.collection_model.specs.Collection.{Collection, list_of}
use Rattle.segments.specs.Joined.{ListPart, documents_in, most_joined, parts_behind}
use Rattle.segments.specs.JoinedCursor.{part_of}
use Rattle.segments.specs.Laws.{IsInRange}
use Rattle.segments.specs.Totals.{most_total, total_of}
use Rattle.index_reading.specs.declared.joined.Segment.{Segment}

-- the collections of some segments
abbrev pub collections_in : List Segment → List Collection
collections_in segments = map (λ s. s.index.collection) segments

-- their lists of a term, each with the first document of its segment
abbrev pub lists_in : List Segment → ℕ → List ListPart
lists_in segments t = map (λ s. part_of s.first (list_of s.index.collection t)) segments

-- Segments that can be joined: the first document of each is as many as the documents of those
-- before it.
pub record AreSegments (segments : List Segment) : Type 0 where
  pub firsts : (t : ℕ) → lists_in segments t ≡ parts_behind 0 (collections_in segments) t
  pub in_range : All IsInRange (collections_in segments)
  pub few : documents_in (collections_in segments) ≤ most_joined

-- With this collection the frequencies of list t pass the greatest sum, or none does.
abbrev pub PassesAt : List Collection → ℕ → Option ℕ → Type 0
PassesAt cs t None = total_of cs t ≤ most_total
PassesAt cs t (Some s) =
    (total_of (take s cs) t ≤ most_total) × (most_total < total_of (take (suc s) cs) t)
