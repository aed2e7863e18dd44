-- Lemmas on the collection of an index that is read list by list, in a format that may hold it.
use Rattle.std.proofs.Common.{◌≡◌, refl, ℕ, zero, suc, ◌+◌, ◌<◌, ◌≤◌, List, [], ◌∷◌, length, drop, get_or, replicate, arith}
use Rattle.std.proofs.lemmas.List.{drop_more}
use Rattle.std.proofs.lemmas.List.Elements.{All-weaker, All-get_or}
use Rattle.collection_model.specs.FormatNumbers.{FormatNumbers}
use Rattle.collection_model.specs.Collection.{Posting, Collection, WellFormed, IsPostingList, list_of}
use Rattle.index_building.specs.WordsOfCollection.{HoldsAllOf}

module _ (one other : FormatNumbers) (holds : HoldsAllOf one other) where
  list-fits : (n : ℕ) (list : List Posting) → IsPostingList one n list → IsPostingList other n list
  list-fits n list is = record {
    rising = is.rising;
    in_range = is.in_range;
    not_zero = is.not_zero;
    fit = is.fit;
    sum_within = omega (arith, is.sum_within, holds.sums);
  }

  pub collection-fits : (c : Collection) → WellFormed one c → WellFormed other c
  collection-fits c good = record {
    documents = omega (arith, good.documents, holds.documents);
    terms = good.terms;
    lists = All-weaker (IsPostingList one c.documents) (IsPostingList other c.documents) (list-fits c.documents) c.lists good.lists;
    size_each = good.size_each;
    sizes = good.sizes;
  }

  pub list-at : (c : Collection) (t : ℕ) → WellFormed one c → t < length c.lists → IsPostingList other c.documents (list_of c t)
  list-at c t good within = All-get_or (IsPostingList other c.documents) c.lists t [] within (collection-fits c good).lists

-- the lists that are to come
pub next-list : (c : Collection) (t : ℕ) → t < length c.lists → drop t c.lists ≡ list_of c t ∷ drop (t + 1) c.lists
next-list c t within = drop_more c.lists t [] within

-- they are as many without postings
pub rest-empty : (lists : List (List Posting)) (w k : ℕ) → length lists ≡ w + k → ((t : ℕ) → w ≤ t → get_or lists t [] ≡ []) → drop w lists ≡ replicate k []
rest-empty [] zero zero count none = refl
rest-empty [] zero (suc k) count none = absurd (omega (arith, count))
rest-empty [] (suc w) k count none = absurd (omega (arith, count))
rest-empty (l ∷ lists) zero zero count none = absurd (omega (arith, count))
rest-empty (l ∷ lists) zero (suc k) count none =
    let first : l ≡ [] = none 0 (omega arith) in
    let rest : lists ≡ replicate k [] = rest-empty lists zero k (omega (arith, count)) (λ t le. none (suc t) (omega arith)) in
    (λ j. first j ∷ rest j)
rest-empty (l ∷ lists) (suc w) k count none = rest-empty lists w k (omega (arith, count)) (λ t le. none (suc t) (omega (arith, le)))
