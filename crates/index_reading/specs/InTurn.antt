use Rattle.std.specs.Prelude.{◌≡◌, ℕ, ◌≤◌, ◌++◌, min, List, map, length}
use Rattle.std.specs.List.{All}
use Rattle.collection_model.specs.Collection.{Posting, Collection, docs_of, freqs_of, list_of}
use Rattle.segments.specs.Joined.{ListPart, documents_in, most_joined, parts_behind, shifted}
use Rattle.segments.specs.JoinedCursor.{part_of}
use Rattle.segments.specs.Laws.{IsInRange}
use Rattle.index_file.specs.ListWalk.{AreEmpty, ListsInTurn}
use Rattle.index_reading.specs.declared.part.Part.{Part}

-- the collections of some parts, each with how many documents stand before its own
abbrev pub placed_in : List Part → List (ℕ × Collection)
placed_in parts = map (λ p. (p.first, p.lists.collection)) parts

-- the collections
abbrev pub collections_placed : List (ℕ × Collection) → List Collection
collections_placed placed = map (λ c. c.1) placed

-- their lists of a term, each with how many documents stand before its own
abbrev pub lists_placed : List (ℕ × Collection) → ℕ → List ListPart
lists_placed placed t = map (λ c. part_of c.0 (list_of c.1 t)) placed

-- Collections that can be joined, each behind the documents of those before it.
pub record ArePlaced (placed : List (ℕ × Collection)) : Type 0 where
  pub firsts : (t : ℕ) → lists_placed placed t ≡ parts_behind 0 (collections_placed placed) t
  pub in_range : All IsInRange (collections_placed placed)
  pub few : documents_in (collections_placed placed) ≤ most_joined

-- The lists before list t were taken: between it and the next that has postings there is no other.
pub record AreTaken (t : ℕ) (lists : ListsInTurn) : Type 0 where
  pub reached : min t (length lists.collection.lists) ≤ lists.next
  pub empty : AreEmpty lists.collection t lists.next

-- So it is in a part.
abbrev pub StandsBefore : ℕ → Part → Type 0
StandsBefore t part = AreTaken t part.lists

-- The postings of a list stand behind the documents and frequencies that were there, with each
-- document counted on from a first one.
pub record AreAdded (first : ℕ) (list : List Posting) (docs freqs new_docs new_freqs : List ℕ)
    : Type 0 where
  pub docs_are : new_docs ≡ docs ++ docs_of (shifted first list)
  pub freqs_are : new_freqs ≡ freqs ++ freqs_of list
