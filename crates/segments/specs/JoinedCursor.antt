use Rattle.std.specs.Prelude.{◌≡◌, ℕ, ◌+◌, ◌<◌, ◌≤◌, List, [], map, length, take, get_or, slice_index}
use Rattle.collection_model.specs.Collection.{Posting}
use Rattle.segments.specs.Joined.{ListPart, joined_list}

-- a part put together
abbrev pub part_of : ℕ → List Posting → ListPart
part_of first list = record { first = first; list = list }

-- a part that is not there
abbrev pub no_part : ListPart
no_part = part_of 0 []

-- the parts of first documents with cursors, by the list of each
abbrev pub parts_of : {A : Type 0} → (A → List Posting) → List (ℕ × A) → List ListPart
parts_of list cursors = map (λ c. part_of c.0 (list c.1)) cursors

-- the places of these cursors
abbrev pub places_of : {A : Type 0} → (A → ℕ) → List (ℕ × A) → List ℕ
places_of place cursors = map (λ c. place c.1) cursors

-- how many postings stand before a part
abbrev pub start_of : List ListPart → ℕ → ℕ
start_of parts at = length (joined_list (take at parts))

-- the place in the joined list of a cursor that stands at a part, or behind the last
abbrev pub joined_place : List ListPart → List ℕ → ℕ → ℕ
joined_place parts places at = start_of parts at + slice_index places at

-- It stands at a part whose cursor is at a posting, or behind the last part, and no part behind it
-- is read.
pub record StandsAt (parts : List ListPart) (places : List ℕ) (at : ℕ) : Type 0 where
  pub within : at ≤ length parts
  pub reading : at < length parts → slice_index places at < length (get_or parts at no_part).list
  pub unread : (j : ℕ) → at < j → slice_index places j ≡ 0
