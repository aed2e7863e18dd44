-- The greatest frequencies of a list, each with its interval.
use Rattle.std.specs.Prelude.{◌≡◌, ℕ, ◌+◌, ◌<◌, ◌≤◌, ◌==◌, List, map, filter, take, length, slice_index, AllPairs}
use Rattle.std.specs.List.{All}
use Rattle.collection_model.specs.Collection.{Posting, docs_of, freqs_of, greatest}
use Rattle.cursor_api.specs.NextGeq.{IsCursorList}
use Rattle.interval_max.specs.Intervals.{interval_of, greatest_in}
use Rattle.interval_max.specs.declared.peaks.Peak.{Peak}

-- the greatest of the frequencies told for interval v, 0 where none is
abbrev pub peak_at : List Peak → ℕ → ℕ
peak_at peaks v = greatest (map (λ p. p.greatest) (filter (λ p. p.interval == v) peaks))

-- the greatest frequency of a list in each interval in which it has a document, by rising interval
pub record ArePeaks (list : List Posting) (peaks : List Peak) : Type 0 where
  pub rising : AllPairs (λ a b. a.interval < b.interval) peaks
  pub each : (v : ℕ) → peak_at peaks v ≡ greatest_in list v

-- those of the first postings of a list, so many; none is of a later interval than the last of them
pub record ArePeaksTo (list : List Posting) (count : ℕ) (peaks : List Peak) : Type 0 where
  pub peaks_are : ArePeaks (take count list) peaks
  pub before : (d : ℕ) → ((k : ℕ) → k < count → slice_index (docs_of list) k ≤ d)
      → All (λ p. p.interval ≤ interval_of d) peaks

-- documents and frequencies of a list from a place on
pub record ArePostingsFrom (list : List Posting) (from : ℕ) (docs freqs : List ℕ) : Type 0 where
  pub good : IsCursorList list
  pub within : from + length docs ≤ length list
  pub docs_are : (j : ℕ) → j < length docs
      → slice_index docs j ≡ slice_index (docs_of list) (from + j)
  pub freqs_are : (j : ℕ) → j < length docs
      → slice_index freqs j ≡ slice_index (freqs_of list) (from + j)
