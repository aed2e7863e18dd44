-- Bounds of the sums of the frequencies of lists, by which most lists are known not to be too frequent.
use Rattle.std.proofs.Common.{◌≡◌, refl, sym, ◌∙◌, subst, ℕ, ◌+◌, ◌*◌, ◌^◌, ◌<◌, ◌≤◌, List, [], ◌∷◌, length, get_or, take, inl, inr, arith}
use Rattle.std.specs.Prelude.{sum}
use Rattle.std.specs.List.{All}
use Rattle.std.proofs.lemmas.Bool.{cases_lt}
use Rattle.std.proofs.lemmas.List.{get_or_past}
use Rattle.std.proofs.lemmas.List.Elements.{All-nil, All-cons, All-get_or, All-weaker}
use Rattle.std.proofs.lemmas.List.Sums.{sum_by-le}
use Rattle.collection_model.specs.FormatNumbers.{FormatNumbers}
use Rattle.collection_model.specs.Collection.{Posting, Collection, IsPostingList, WellFormed, docs_of, freqs_of, greatest, greatest_freq, list_of}
use Rattle.collection_model.proofs.Lists.{rising-length, docs_of-length, freqs_of-length}
use Rattle.segments.specs.Totals.{most_total, total_at, total_of}
use Rattle.index_reading.specs.declared.joined.Segment.{Segment}
use Rattle.index_reading.specs.JoinedSegments.{collections_in}
use Rattle.index_reading.proofs.Joining.{total-more, total-all}

pub within-greatest : (m : ℕ) (xs : List ℕ) → greatest xs ≤ m → All (λ x. x ≤ m) xs
within-greatest m [] le = All-nil (λ x. x ≤ m)
within-greatest m (x ∷ xs) le = All-cons (λ y. y ≤ m) x xs (omega (arith, le)) (within-greatest m xs (omega (arith, le)))

-- as many as there are, each as great as the greatest
pub list-bound : (list : List Posting) (len most bound : ℕ) → len ≡ length list → most ≡ greatest_freq list → bound ≡ len * most → sum (freqs_of list) ≤ bound
list-bound list len most bound many is so =
    let le : sum (freqs_of list) ≤ length (freqs_of list) * most = sum_by-le (λ n. n) most (freqs_of list) (within-greatest most (freqs_of list) (omega (arith, is))) in
    subst (λ k. sum (freqs_of list) ≤ k) (sym so) (subst (λ k. sum (freqs_of list) ≤ k * most) (freqs_of-length list ∙ sym many) le)

-- as many as there are documents, each as great as a number of four bytes can be
pub collection-bound : (format : FormatNumbers) (c : Collection) (bound : ℕ) → WellFormed format c → bound ≡ c.documents * 4294967296 → (t : ℕ) → total_at t c ≤ bound
collection-bound format c bound good is t = elim (cases_lt t (length c.lists)) as (λ _. total_at t c ≤ bound) [
  | inl within ↦
      let list : List Posting = list_of c t in
      let of : IsPostingList format c.documents list = All-get_or (IsPostingList format c.documents) c.lists t [] within good.lists in
      let each : All (λ f. f ≤ 4294967296) (freqs_of list) = All-weaker (λ f. f < 2 ^ 32) (λ f. f ≤ 4294967296) (λ f less. omega (arith, less)) (freqs_of list) of.fit in
      let le : sum (freqs_of list) ≤ length (freqs_of list) * 4294967296 = sum_by-le (λ n. n) 4294967296 (freqs_of list) each in
      omega (arith, le, rising-length (docs_of list) c.documents of.rising of.in_range, docs_of-length list, freqs_of-length list, is)
  | inr past ↦ rw (get_or_past c.lists t [] past) (omega arith)
]

-- With the bound of one more segment the sum of the first is still within the greatest.
pub bound-more : (segments : List Segment) (t k room bound rest : ℕ) (segment : Segment) → k < length segments → segment ≡ get_or segments k segment
    → total_at t segment.index.collection ≤ bound → rest + bound ≡ room
    → total_of (take k (collections_in segments)) t + room ≤ most_total → total_of (take (k + 1) (collections_in segments)) t + rest ≤ most_total
bound-more segments t k room bound rest segment within is le left so =
    omega (arith, total-more segments t k (total_of (take k (collections_in segments)) t) (total_at t segment.index.collection) segment within is refl refl, le, left, so)

pub bound-all : (segments : List Segment) (t k room : ℕ) → length segments ≤ k → total_of (take k (collections_in segments)) t + room ≤ most_total
    → total_of (collections_in segments) t ≤ most_total
bound-all segments t k room all so = omega (arith, so, total-all segments t k all)
