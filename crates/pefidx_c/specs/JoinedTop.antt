use Rattle.std.specs.Prelude.{◌≡◌, ◌≢◌, ℕ, ◌+◌, ◌<◌, ◌==◌, ◌&&◌, nat_lt, not, if◌then◌else◌}
use Rattle.std.specs.Prelude.{List, [], ◌∷◌, ◌++◌, map, flat_map, take, drop, length, sum, AllPairs}
use Rattle.std.specs.Prelude.{Option, Some, None}
use Rattle.std.specs.List.{All}
use Rattle.collection_model.specs.Collection.{Collection}
use Rattle.scan_plans.specs.IsTop.{IsTop}
use Rattle.segments.specs.Joined.{joined, most_joined, FitTogether}
use Rattle.segments.specs.Laws.{IsInRange}
use Rattle.pefidx_c.specs.Asked.{lists_of}
use Rattle.pefidx_c.specs.declared.status.Status.{Status}
use Rattle.pefidx_c.specs.declared.status.Status.TheVariants.{TooMany, NotWhole}

-- what ranges of documents gave, so many pairs each, as the whole gives it: the documents of a
-- range are counted on from those of the ranges before it, and before the first stand so many
abbrev pub joined_pairs : ℕ → List ℕ → List ℕ → List (ℕ × ℕ) → List (ℕ × ℕ)
joined_pairs first [] counts pairs = []
joined_pairs first (n ∷ documents) [] pairs = []
joined_pairs first (n ∷ documents) (m ∷ counts) pairs =
    map (λ e. (first + e.0, e.1)) (take m pairs)
    ++ joined_pairs (first + n) documents counts (drop m pairs)

-- The documents of pairs are below so many, and no two of them are the same.
pub record AreOnce (n : ℕ) (pairs : List (ℕ × ℕ)) : Type 0 where
  pub below : All (λ e. e.0 < n) pairs
  pub once : AllPairs (λ a b. a.0 ≢ b.0) pairs

-- how ranges with so many documents each, that gave so many pairs each of so many, are refused: too
-- many ranges, counts that are not those of the pairs, or too many documents
abbrev pub join_refusal : List ℕ → List ℕ → ℕ → Option Status
join_refusal documents counts given =
    if nat_lt 4294967295 (length documents) then Some TooMany
    else if not (length documents == length counts && sum counts == given) then Some NotWhole
    else if nat_lt most_joined (sum documents) then Some TooMany
    else None

-- Collections that can be joined, each with the top list of some weighted terms in it.
pub record AreTopLists (k : ℕ) (terms weights : List ℕ)
    (ranges : List (Collection × List (ℕ × ℕ))) : Type 0 where
  pub together : FitTogether (map (λ r. r.0) ranges)
  pub in_range : All (λ r. IsInRange r.0) ranges
  pub tops : All (λ r. IsTop r.0.documents (lists_of r.0 terms) weights k r.1) ranges

-- Where what ranges gave are the top lists of collections, this is the top list of the collection
-- to which these are joined.
abbrev pub IsTopOfWhole : List ℕ → List ℕ → List (ℕ × ℕ) → ℕ → List (ℕ × ℕ) → Type 0
IsTopOfWhole documents counts given k top = (terms weights : List ℕ)
    (ranges : List (Collection × List (ℕ × ℕ))) → AreTopLists k terms weights ranges
    → documents ≡ map (λ r. r.0.documents) ranges → counts ≡ map (λ r. length r.1) ranges
    → given ≡ flat_map (λ r. r.1) ranges
    → IsTop (joined (map (λ r. r.0) ranges)).documents
    (lists_of (joined (map (λ r. r.0) ranges)) terms) weights k top
