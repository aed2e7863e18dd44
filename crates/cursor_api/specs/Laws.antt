use Rattle.std.specs.Prelude.{◌≡◌, ℕ, ◌<◌, ◌≤◌, List, length, slice_index}
use Rattle.std.specs.List.{slice_get}
use Rattle.collection_model.specs.Collection.{Posting, docs_of, first_at_least}
use Rattle.cursor_api.specs.NextGeq.{next_geq_place}

-- a place at or after another: the first whose document is at least d, or the end of the list
pub record IsNextGeq (list : List Posting) (place d found : ℕ) : Type 0 where
  pub at_or_after : place ≤ found
  pub within : found ≤ length list
  pub passed : (k : ℕ) → place ≤ k → k < found → slice_index (docs_of list) k < d
  pub reached : found < length list → d ≤ slice_index (docs_of list) found

-- The next place is the first at or after the present one whose document is at least d.
abbrev pub NextGeqIsFirst : Type 0
NextGeqIsFirst = (list : List Posting) (place d : ℕ) → place ≤ length list
    → IsNextGeq list place d (next_geq_place list place d)

-- There is one such place only.
abbrev pub OneNextGeq : Type 0
OneNextGeq = (list : List Posting) (place d found : ℕ) → IsNextGeq list place d found
    → found ≡ next_geq_place list place d

-- From the start of a list, the posting at the next place is the first whose document is at least
-- d.
abbrev pub FirstIsAtTheNextPlace : Type 0
FirstIsAtTheNextPlace = (list : List Posting) (d : ℕ)
    → first_at_least list d ≡ slice_get list (next_geq_place list 0 d)
