-- When pruning can cost less than scoring every document.
use Rattle.std.specs.Prelude.{ℕ, ◌-◌, ◌*◌, ◌&&◌, ◌||◌, if◌then◌else◌, not, nat_eq, nat_le, nat_lt, Bool, List, length, map, min}
use Rattle.std.specs.List.{sum_by}
use Rattle.collection_model.specs.Collection.{Posting, greatest}
use Rattle.topk_pruning.specs.Terms.{highest, terms_of}

-- all the postings, counted in 64 bits
abbrev pub count_of : List (List Posting) → ℕ
count_of lists = min (sum_by length lists) 18446744073709551615

-- those of the longest list
abbrev pub longest_of : List (List Posting) → ℕ
longest_of lists = greatest (map length lists)

-- so many lists, more than a few, have fewer postings in the mean than it pays to search
abbrev pub are_read : ℕ → ℕ → Bool
are_read count postings = nat_lt 4 count && nat_lt postings (1024 * count)

-- so many lists have 256 postings or more, but in the mean fewer than a 64th of n documents, and
-- more than five fewer than a 16th
abbrev pub are_sparse : ℕ → ℕ → ℕ → Bool
are_sparse n count postings =
    nat_le 256 postings && nat_lt ((if nat_le count 5 then 64 else 16) * postings) (n * count)

-- how often k times the postings may share each frequency of the heaviest term, up to the highest
abbrev pub most_alike : ℕ → ℕ
most_alike count = if nat_le count 2 then 6144 else if nat_lt count 17 then 3072 else 768

-- k times the postings share each frequency of the heaviest term, up to the highest bound, at most
-- so often, whatever the scale of weights
abbrev pub share_at_most : ℕ → List (List Posting) → List ℕ → ℕ → Bool
share_at_most most lists weights k =
    nat_le (count_of lists * (k * greatest weights)) (most * highest (terms_of lists weights))

-- that bound is eight times k frequencies of the heaviest term, or more
abbrev pub is_high : List (List Posting) → List ℕ → ℕ → Bool
is_high lists weights k = nat_le (8 * (k * greatest weights)) (highest (terms_of lists weights))

-- they share it no more often than they may, and where that bound is low seldom
abbrev pub are_apart : List (List Posting) → List ℕ → ℕ → Bool
are_apart lists weights k =
    share_at_most (most_alike (length lists)) lists weights k
    && (is_high lists weights k || share_at_most 1024 lists weights k)

-- the longest of some lists has 512 postings or more, and sixteen times those of all the others,
-- which are k or more
abbrev pub is_long : ℕ → ℕ → ℕ → Bool
is_long all longest k =
    nat_le 512 longest && nat_le (16 * (all - longest)) longest && nat_le k (all - longest)

-- one of some lists does
abbrev pub one_is_long : List (List Posting) → ℕ → Bool
one_is_long lists k = is_long (count_of lists) (longest_of lists) k

-- there are k postings or more for each of k documents
abbrev pub are_many : List (List Posting) → ℕ → Bool
are_many lists k = nat_le (k * k) (count_of lists)

-- of many postings, in few lists or long ones, one long list beside short ones, or more than one
-- window of n documents, and one list or some that are dense and whose scores lie apart
abbrev pub pruning_saves : ℕ → List (List Posting) → List ℕ → ℕ → Bool
pruning_saves n lists weights k =
    not (are_read (length lists) (count_of lists))
    && are_many lists k
    && (one_is_long lists k
    || (nat_lt 8192 n && (nat_eq (length lists) 1
    || (not (are_sparse n (length lists) (count_of lists)) && are_apart lists weights k))))
