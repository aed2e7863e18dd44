use Rattle.std.specs.Prelude.{◌≡◌, ℕ, ◌+◌, ◌<◌, ◌≤◌, List, [], ◌∷◌, map, flat_map, length, sum_by}
use Rattle.std.specs.List.{All, AllPairs, range_with_len}
use Rattle.segments.specs.declared.pushed.Joining.{Joining}
use Rattle.segments.specs.declared.pushed.Joining.TheVariants.{Alike, Wide}
use Rattle.collection_model.specs.Collection.{Posting, Collection, docs_of, greatest, list_of}

-- a part of a joined list: how many documents stand before those of its segment, and the list of
-- the segment
pub record ListPart : Type 0 where
  pub first : ℕ
  pub list : List Posting

-- postings whose documents are counted on from a first one
abbrev pub shifted : ℕ → List Posting → List Posting
shifted first list = map (λ p. record { doc = first + p.doc; freq = p.freq }) list

-- lists one after the other, each shifted by its first document
abbrev pub joined_list : List ListPart → List Posting
joined_list parts = flat_map (λ p. shifted p.first p.list) parts

-- the parts of list t of some collections, the first behind n documents
abbrev pub parts_behind : ℕ → List Collection → ℕ → List ListPart
parts_behind n [] t = []
parts_behind n (c ∷ cs) t = record {
  first = n;
  list = list_of c t;
} ∷ parts_behind (n + c.documents) cs t

-- how many documents some collections have
abbrev pub documents_in : List Collection → ℕ
documents_in cs = sum_by (λ c. c.documents) cs

-- how many terms the first of them has, 0 where there is none
abbrev pub terms_in : List Collection → ℕ
terms_in [] = 0
terms_in (c ∷ cs) = length c.lists

-- some collections as one of so many terms: the documents of each are counted on from those before
-- it, list t is their lists t one after the other, and so are the sizes
abbrev pub joined_of : ℕ → List Collection → Collection
joined_of terms cs = record {
  documents = documents_in cs;
  lists = map (λ t. joined_list (parts_behind 0 cs t)) (range_with_len 0 terms);
  sizes = flat_map (λ c. c.sizes) cs;
}

-- the same where each has as many terms as the first
abbrev pub joined : List Collection → Collection
joined cs = joined_of (terms_in cs) cs

-- the greatest number of terms that one of them has
abbrev pub most_terms_in : List Collection → ℕ
most_terms_in cs = greatest (map (λ c. length c.lists) cs)

-- the same with as many terms as the most: a collection that has fewer has empty lists for the
-- others
abbrev pub joined_wide : List Collection → Collection
joined_wide cs = joined_of (most_terms_in cs) cs

-- the greatest number of documents that a joined collection has: each is a number of four bytes
-- below the greatest
abbrev pub most_joined : ℕ
most_joined = 4294967295

-- Collections that can be joined: all have as many terms as the first, and together they have not
-- too many documents.
pub record FitTogether (cs : List Collection) : Type 0 where
  pub terms : All (λ c. length c.lists ≡ terms_in cs) cs
  pub documents : documents_in cs ≤ most_joined

-- Collections that can be joined so: alike, or each with its own number of terms.
abbrev pub CanJoin : Joining → List Collection → Type 0
CanJoin Alike cs = FitTogether cs
CanJoin Wide cs = documents_in cs ≤ most_joined

-- The documents of a part, shifted, are below this one.
abbrev pub EndsBelow : ListPart → ℕ → Type 0
EndsBelow p next = All (λ d. d < next) (docs_of (shifted p.first p.list))

-- Parts that follow one another: each ends below the first documents of all later ones, and all end
-- below the most.
pub record FollowInOrder (parts : List ListPart) : Type 0 where
  pub apart : AllPairs (λ p q. EndsBelow p q.first) parts
  pub few : All (λ p. EndsBelow p most_joined) parts
