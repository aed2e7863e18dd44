use Rattle.std.specs.Prelude.{ℕ, ◌<◌, ◌≤◌, Bool, List, Option, option_map, slice_get, slice_index, length}
use Rattle.std.specs.List.{list_all}
use Rattle.collection_model.specs.Collection.{Posting, docs_of}
use Rattle.scan_plans.specs.Matches.{has_doc}

-- the document at a place, None at the end
abbrev pub doc_at : List Posting → ℕ → Option ℕ
doc_at list place = option_map (λ p. p.doc) (slice_get list place)

-- a place before which the documents are below d, and from which on they are not
pub record StandsFrom (d : ℕ) (list : List Posting) (place : ℕ) : Type 0 where
  pub passed : (k : ℕ) → k < place → slice_index (docs_of list) k < d
  pub left : (k : ℕ) → place ≤ k → k < length list → d ≤ slice_index (docs_of list) k

-- a place before which the documents are below d
pub record HasPassed (d : ℕ) (list : List Posting) (place : ℕ) : Type 0 where
  pub passed : (k : ℕ) → k < place → slice_index (docs_of list) k < d

-- whether every one of the lists has a document
abbrev pub in_each : ℕ → List (List Posting) → Bool
in_each d lists = list_all (has_doc d) lists
