-- The lists of a collection that have maxima.
use Rattle.std.specs.Prelude.{◌≡◌, ℕ, ◌+◌, ◌≤◌, ◌*◌, ◌/◌, ◌&&◌, nat_le, Bool, List, filter, take, length}
use Rattle.std.specs.List.{sum_by}
use Rattle.collection_model.specs.Collection.{Collection, Posting, list_of}
use Rattle.index_file.specs.IndexView.{IndexView}
use Rattle.index_file.specs.ListWalk.{AreEmpty, ListsInTurn}
use Rattle.interval_max.specs.Intervals.{interval_count}
use Rattle.interval_max.specs.Kept.{AreMaximaOf}

-- whether a list of n documents is long: it has 256 postings or more, and one for each 256
-- intervals
abbrev pub is_long : ℕ → List Posting → Bool
is_long n list = nat_le 256 (length list) && nat_le (interval_count n) (256 * length list)

-- how many postings the long ones among the first lists have, so many
abbrev pub long_postings : Collection → ℕ → ℕ
long_postings c count = sum_by length (filter (is_long c.documents) (take count c.lists))

-- whether the list of a term has maxima where so many words pay for them: it is long, and with the
-- long ones before it has no more than 64 postings for each word
abbrev pub has_maxima : ℕ → Collection → ℕ → Bool
has_maxima words c term = is_long c.documents (list_of c term)
    && nat_le (long_postings c (term + 1) / 64) words

-- These bytes are the maxima of the lists of a collection that have some where so many words pay.
abbrev pub AreIndexMaxima : ℕ → Collection → List ℕ → Type 0
AreIndexMaxima words c bytes =
    AreMaximaOf (has_maxima words c) (list_of c) (length c.lists) bytes

-- The lists of an index are taken in turn, and those before list t were: between it and the next
-- that has postings there is no other.
pub record StandsBefore (i : IndexView) (t : ℕ) (lists : ListsInTurn) : Type 0 where
  pub collection : lists.collection ≡ i.collection
  pub reached : t ≤ lists.next
  pub empty : AreEmpty lists.collection t lists.next
