-- The sums of the frequencies of joined lists.
use Rattle.std.specs.Prelude.{ℕ, suc, ◌<◌, ◌≤◌, List, sum, sum_by, take}
use Rattle.collection_model.specs.FormatNumbers.{format_three}
use Rattle.collection_model.specs.Collection.{Collection, freqs_of, list_of}

-- the greatest sum of the frequencies of a list that a packed file holds
abbrev pub most_total : ℕ
most_total = format_three.most_sum

-- the sum of the frequencies of list t of a collection
abbrev pub total_at : ℕ → Collection → ℕ
total_at t c = sum (freqs_of (list_of c t))

-- the sum of those of list t of some collections
abbrev pub total_of : List Collection → ℕ → ℕ
total_of cs t = sum_by (total_at t) cs

-- No joined list has a greater sum than a packed file holds.
abbrev pub SumsFit : List Collection → Type 0
SumsFit cs = (t : ℕ) → total_of cs t ≤ most_total

-- The joined list of some term has a greater sum; that of the least such term passes the greatest
-- sum with this collection.
pub record AreTooFrequent (cs : List Collection) (s : ℕ) : Type 0 where
  pub term : ℕ
  pub least : (t : ℕ) → t < term → total_of cs t ≤ most_total
  pub before : total_of (take s cs) term ≤ most_total
  pub passed : most_total < total_of (take (suc s) cs) term
