-- A collection that is cut into ranges of its documents.
use Rattle.std.specs.Prelude.{ℕ, ◌+◌, ◌-◌, ◌&&◌, nat_le, nat_lt, List, [], ◌∷◌, drop, filter, map, take}
use Rattle.collection_model.specs.Collection.{Posting, Collection}

-- the postings of a list whose documents are in a range of so many from a first one, counted from
-- that
abbrev pub list_in : ℕ → ℕ → List Posting → List Posting
list_in first count list =
    map (λ p. record { doc = p.doc - first; freq = p.freq })
    (filter (λ p. nat_le first p.doc && nat_lt p.doc (first + count)) list)

-- a range of the documents of a collection, with every list cut to it and every size of it
abbrev pub range_of : Collection → ℕ → ℕ → Collection
range_of c first count = record {
  documents = count;
  lists = map (list_in first count) c.lists;
  sizes = take count (drop first c.sizes);
}

-- its ranges of so many documents each, one behind the other from a first document on
abbrev pub ranges_of : Collection → ℕ → List ℕ → List Collection
ranges_of c first [] = []
ranges_of c first (count ∷ counts) = range_of c first count ∷ ranges_of c (first + count) counts
