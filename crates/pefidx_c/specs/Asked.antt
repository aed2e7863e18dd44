use Rattle.std.specs.Prelude.{ℕ, ◌^◌, ◌==◌, nat_lt, not, Bool, false, if◌then◌else◌, List, length, map, sum, Option, Some, None}
use Rattle.std.specs.List.{list_all}
use Rattle.collection_model.specs.Collection.{Posting, Collection, list_of}
use Rattle.index_file.specs.IndexView.{index_stated}
use Rattle.pefidx_c.specs.declared.status.Status.{Status}
use Rattle.pefidx_c.specs.declared.status.Status.TheVariants.{NoTerm, TooManyTerms, BadWeights, NoPlan}

-- the collection of an index
abbrev pub collection_in : List ℕ → Collection
collection_in words = (index_stated words).collection

-- the lists of some terms
abbrev pub lists_of : Collection → List ℕ → List (List Posting)
lists_of c terms = map (list_of c) terms

-- how many terms may be asked together
abbrev pub most_asked : ℕ
most_asked = 1024

-- how a question to some terms is refused: more than may be asked, or one that the collection has
-- not
abbrev pub refusal : Collection → List ℕ → Option Status
refusal c terms =
    if nat_lt most_asked (length terms) then Some TooManyTerms
    else if not (list_all (λ t. nat_lt t (length c.lists)) terms) then Some NoTerm
    else None

-- whether weights are those of so many terms: one for each, each at least 1, and their sum below 2
-- ^ 26
abbrev pub are_weights : ℕ → List ℕ → Bool
are_weights count weights =
    if not (length weights == count) then false
    else if not (list_all (λ w. nat_lt 0 w) weights) then false
    else nat_lt (sum weights) (2 ^ 26)

-- the number of the last plan, that by intervals
abbrev pub last_plan : ℕ
last_plan = 3

-- how the question for the best documents by a plan is refused: a number that is no plan's, the
-- terms, or their weights
abbrev pub top_refusal : Collection → ℕ → List ℕ → List ℕ → Option Status
top_refusal c plan terms weights =
    if nat_lt last_plan plan then Some NoPlan
    else if nat_lt most_asked (length terms) then Some TooManyTerms
    else if not (list_all (λ t. nat_lt t (length c.lists)) terms) then Some NoTerm
    else if not (are_weights (length terms) weights) then Some BadWeights
    else None
