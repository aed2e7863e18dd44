-- The terms of a query, and what they add to scores.
use Rattle.std.specs.Prelude.{◌≡◌, ℕ, ◌*◌, ◌<◌, ◌≤◌, ◌^◌, ◌⊎◌, ◌≢◌, nat_lt, List, [], ◌∷◌, map, length, drop, Option, Some, None, Bool, true, false, slice_index, slice_index_or, IfSome, AllPairs}
use Rattle.std.specs.List.{All, sum_by, list_any, range_with_len}
use Rattle.std.specs.List.Sorted.{IsPermutation}
use Rattle.collection_model.specs.Collection.{Posting, greatest, greatest_freq}
use Rattle.scan_plans.specs.Matches.{has_doc, freq_of_doc, score}
use Rattle.scan_plans.specs.IsTop.{IsTopFrom}
use Rattle.scan_plans.specs.Ranking.{IsFirstK}
use Rattle.scan_plans.specs.Scan.{HasPassed}
use Rattle.scan_plans.specs.Skips.{IsBarred}
use Rattle.topk_pruning.specs.declared.term.Term.{Term}

-- the term of a list: its place among the lists, its weight, and the most that it adds to a score
abbrev pub term_of : List (List Posting) → List ℕ → ℕ → Term
term_of lists weights i = record {
  list = i;
  weight = slice_index weights i;
  bound = slice_index weights i * greatest_freq (slice_index_or lists i []);
}

-- a term for each of some lists
abbrev pub terms_of : List (List Posting) → List ℕ → List Term
terms_of lists weights = map (term_of lists weights) (range_with_len 0 (length lists))

-- the list of a term
abbrev pub list_of : List (List Posting) → Term → List Posting
list_of lists t = slice_index_or lists t.list []

-- what a term adds to the score of a document
abbrev pub share : List (List Posting) → ℕ → Term → ℕ
share lists d t = t.weight * freq_of_doc d (list_of lists t)

-- the score of a document in the lists of some terms
abbrev pub score_in : List (List Posting) → ℕ → List Term → ℕ
score_in lists d terms = sum_by (share lists d) terms

-- whether the list of one of some terms has a document
abbrev pub in_lists : List (List Posting) → ℕ → List Term → Bool
in_lists lists d terms = list_any (λ t. has_doc d (list_of lists t)) terms

-- the lists of some terms with their weights
abbrev pub keys : List Term → List (ℕ × ℕ)
keys terms = map (λ t. (t.list, t.weight)) terms

-- the same lists with the same weights, in any order
abbrev pub AreAlike : List Term → List Term → Type 0
AreAlike terms others = IsPermutation (keys terms) (keys others)

-- the bounds of some terms together
abbrev pub bounds : List Term → ℕ
bounds terms = sum_by (λ t. t.bound) terms

-- the highest bound of some terms, 0 where there is none
abbrev pub highest : List Term → ℕ
highest terms = greatest (map (λ t. t.bound) terms)

-- whether a score beats the bar; any does while there is none
abbrev pub beats : Option ℕ → ℕ → Bool
beats None score = true
beats (Some bar) score = nat_lt bar score

-- terms of some of the lists, each with the bound of its list
pub record AreTerms (lists : List (List Posting)) (terms : List Term) : Type 0 where
  pub within : All (λ t. t.list < length lists) terms
  pub bounded : All (λ t. t.bound ≡ t.weight * greatest_freq (list_of lists t)) terms
  pub light : bounds terms < 2 ^ 58

-- terms of some of the lists, each with a bound of what it adds to the scores of the documents from
-- one up to another
pub record AreTermsIn (lists : List (List Posting)) (from to : ℕ) (terms : List Term) : Type 0 where
  pub within : All (λ t. t.list < length lists) terms
  pub bounded : (d : ℕ) → from ≤ d → d < to → All (λ t. share lists d t ≤ t.bound) terms
  pub light : bounds terms < 2 ^ 58

-- the terms of a query, in any order and with any bounds
pub record AreAllTerms (lists : List (List Posting)) (weights : List ℕ) (terms : List Term) : Type 0
  where
    pub each : length weights ≡ length lists
    pub all : AreAlike (terms_of lists weights) terms

-- the first document from a number on that the list of one of some terms has, None where there is
-- none
pub record IsFirstDoc (lists : List (List Posting)) (terms : List Term) (from : ℕ)
    (found : Option ℕ) : Type 0 where
  pub none_before : (d : ℕ) → from ≤ d → IfSome found (λ doc. d < doc)
      → in_lists lists d terms ≡ false
  pub one_has_it : IfSome found (λ doc. (from ≤ doc) × (in_lists lists doc terms ≡ true))

-- the next document that can be held: a list has it, and of those before it each that a list has
-- has a barred score
pub record IsNextDoc (lists : List (List Posting)) (terms : List Term) (floor k : ℕ)
    (held : List (ℕ × ℕ)) (from : ℕ) (found : Option ℕ) : Type 0 where
  pub barred_before : (d : ℕ) → from ≤ d → IfSome found (λ doc. d < doc)
      → (in_lists lists d terms ≡ false) ⊎ IsBarred floor k held (score_in lists d terms)
  pub one_has_it : IfSome found (λ doc. (from ≤ doc) × (in_lists lists doc terms ≡ true))

-- so many first terms are essential: there are no others, or a score of the others' bounds together
-- is barred
pub record AreSpared (floor k : ℕ) (held : List (ℕ × ℕ)) (terms : List Term) (essential : ℕ)
    : Type 0 where
  pub within : essential ≤ length terms
  pub spared : (essential ≡ length terms) ⊎ IsBarred floor k held (bounds (drop essential terms))

-- the terms after a number of first ones do not beat the bar, and with one more they would
pub record IsEssential (terms : List Term) (bar : Option ℕ) (count : ℕ) : Type 0 where
  pub within : count ≤ length terms
  pub spared : (count ≡ length terms) ⊎ (beats bar (bounds (drop count terms)) ≡ false)
  pub needed : (i : ℕ) → i < count → beats bar (bounds (drop i terms)) ≡ true

-- terms of different lists
abbrev pub AreApart : List Term → Type 0
AreApart terms = AllPairs (λ a b. a.list ≢ b.list) terms

-- terms of different lists, whose weights are small
pub record AreQueryTerms (lists : List (List Posting)) (terms : List Term) : Type 0 where
  pub terms_are : AreTerms lists terms
  pub apart : AreApart terms
  pub small : All (λ t. t.weight < 2 ^ 26) terms

-- some terms with bounds for the documents from one up to another, in any order
pub record AreNear (lists : List (List Posting)) (terms : List Term) (from to : ℕ)
    (near : List Term) : Type 0 where
  pub alike : AreAlike terms near
  pub bounded : AreTermsIn lists from to near

-- the cursors of some terms have passed no document from one on
pub record AreBefore {X : Type 0} (list : X → List Posting)
    (place : X → ℕ) (d : ℕ) (terms : List Term) (cursors : List X) : Type 0 where
  pub passed : All (λ t. (c : X)
      → HasPassed d (list (slice_index_or cursors t.list c))
      (place (slice_index_or cursors t.list c))) terms

-- terms of different lists, whose weights are small, each with a bound of what it adds to the
-- scores of the documents from one up to another
pub record AreWindowTerms (lists : List (List Posting)) (from to : ℕ) (terms : List Term) : Type 0
  where
    -- the bounds hold for these documents
    pub terms_in : AreTermsIn lists from to terms
    -- no list is read for two of them
    pub apart : AreApart terms
    -- no weight is great
    pub small : All (λ t. t.weight < 2 ^ 26) terms

-- the cursors of lists that none of some terms has are as they were
pub record AreKept {X : Type 0} (terms : List Term) (old new : List X) : Type 0 where
  pub same : (i : ℕ) → All (λ t. t.list ≢ i) terms → (c : X)
      → slice_index_or new i c ≡ slice_index_or old i c

-- a document is offered with its score, which reaches the floor, or its score is barred
abbrev pub Considers : ℕ → ℕ → ℕ → ℕ → List (ℕ × ℕ) → List (ℕ × ℕ) → Type 0
Considers floor k doc score held new = ((floor ≤ score) × IsFirstK k ((doc, score) ∷ held) new)
    ⊎ ((new ≡ held) × IsBarred floor k held score)

-- what is held is the top list from the floor on up to a document, where what was held is that of
-- the documents before an earlier one
abbrev pub FollowsTo : List (List Posting) → List Term → ℕ → ℕ → ℕ → ℕ → List (ℕ × ℕ) → List (ℕ × ℕ)
    → Type 0
FollowsTo lists terms floor k from to held new = (weights : List ℕ)
    → AreAllTerms lists weights terms → IsTopFrom floor from lists weights k held
    → IsTopFrom floor to lists weights k new
