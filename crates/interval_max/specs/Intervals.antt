-- Intervals of neighbouring documents, and what lists have in them.
use Rattle.std.specs.Prelude.{ℕ, ◌+◌, ◌/◌, ◌==◌, List, filter}
use Rattle.collection_model.specs.Collection.{Posting, greatest_freq}

-- the interval of a document, which it shares with 31 neighbours
abbrev pub interval_of : ℕ → ℕ
interval_of doc = doc / 32

-- as many intervals as n documents reach, and one more where the last is full
abbrev pub interval_count : ℕ → ℕ
interval_count n = n / 32 + 1

-- the greatest frequency of a list in interval v, 0 where it has no document there
abbrev pub greatest_in : List Posting → ℕ → ℕ
greatest_in list v = greatest_freq (filter (λ p. interval_of p.doc == v) list)
