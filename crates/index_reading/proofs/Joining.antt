-- Segments that are added one after the other, and what a cursor over their lists asks.
use Rattle.std.proofs.Common.{◌≡◌, refl, sym, ◌∙◌, ap, subst, ℕ, zero, suc, ◌+◌, ◌<◌, ◌≤◌, max, List, [], ◌∷◌, ◌++◌, length, get_or, take, inl, inr, append-nil, append_assoc, arith}
use Rattle.std.specs.Prelude.{flat_map, is_some, sum, sum_by, Option, Some, None, false}
use Rattle.std.specs.List.{All}
use Rattle.std.proofs.lemmas.Bool.{cases_lt}
use Rattle.std.proofs.lemmas.List.{map-append, length-map, get_or-map, get_or_past, take_all}
use Rattle.std.proofs.lemmas.List.Elements.{All-append, All-get_or, All-head, All-more, All-tail, All-nil, All-cons}
use Rattle.std.proofs.lemmas.List.FromFn.{length-map-range_with_len}
use Rattle.std.proofs.lemmas.List.Sums.{sum_by_push, sum_by_more, sum_by-take-le, sum_by-cons}
use Rattle.std.proofs.Math.Seq.{take-suc}
use Rattle.collection_model.specs.Collection.{Posting, Collection, IsPostingList, WellFormed, freqs_of, list_of}
use Rattle.part_cost.specs.declared.formats.Format.{Format}
use Rattle.part_cost.specs.declared.formats.Format.TheVariants.{One, Two, Three}
use Rattle.part_cost.specs.Formats.{numbers_of}
use Rattle.index_file.specs.IndexView.{IndexView}
use Rattle.segments.specs.Joined.{ListPart, parts_behind, documents_in, joined_list, joined_wide, most_joined, most_terms_in, shifted, FollowInOrder}
use Rattle.segments.specs.Totals.{most_total, total_at, total_of, AreTooFrequent, SumsFit}
use Rattle.segments.specs.JoinedCursor.{part_of, parts_of}
use Rattle.segments.specs.Laws.{IsInRange, ListsFollow, ListsAreJoined}
use Rattle.index_reading.specs.JoinedIndexes.{collections_of}
use Rattle.index_reading.specs.declared.joined.Segment.{Segment}
use Rattle.index_reading.specs.JoinedSegments.{AreSegments, PassesAt, collections_in, lists_in}

-- ---- one more segment

pub documents-push : (cs : List Collection) (c : Collection) → documents_in (cs ++ c ∷ []) ≡ documents_in cs + c.documents
documents-push cs c =
    sum_by_push (λ (d : Collection). d.documents) cs c

parts-push : (n : ℕ) (cs : List Collection) (c : Collection) (t : ℕ) → parts_behind n (cs ++ c ∷ []) t ≡ parts_behind n cs t ++ part_of (n + documents_in cs) (list_of c t) ∷ []
parts-push n [] c t = ap (λ m. part_of m (list_of c t) ∷ []) (let e : n ≡ n + 0 = omega arith in e)
parts-push n (x ∷ cs) c t =
    let e : n + x.documents + documents_in cs ≡ n + documents_in (x ∷ cs) = omega (arith, sum_by-cons (λ (d : Collection). d.documents) x cs) in
    ap (λ ps. part_of n (list_of x t) ∷ ps) (parts-push (n + x.documents) cs c t ∙ ap (λ m. parts_behind (n + x.documents) cs t ++ part_of m (list_of c t) ∷ []) e)

-- the collections of segments with one more
pub collections-more : (segments more : List Segment) (segment : Segment) → more ≡ segments ++ segment ∷ []
    → collections_in more ≡ collections_in segments ++ segment.index.collection ∷ []
collections-more segments more segment pushed =
    ap collections_in pushed ∙ map-append (λ s. s.index.collection) segments (segment ∷ [])

-- how many documents they have
pub documents-more : (segments more : List Segment) (segment : Segment) (first total : ℕ) → more ≡ segments ++ segment ∷ []
    → first ≡ documents_in (collections_in segments) → total ≡ first + segment.index.collection.documents → total ≡ documents_in (collections_in more)
documents-more segments more segment first total pushed are is =
    is ∙ ap (λ n. n + segment.index.collection.documents) are ∙ sym (documents-push (collections_in segments) segment.index.collection)
    ∙ ap documents_in (sym (collections-more segments more segment pushed))

-- they can be joined
pub segments-more : (segments more : List Segment) (segment : Segment) → more ≡ segments ++ segment ∷ [] → AreSegments segments
    → segment.first ≡ documents_in (collections_in segments) → documents_in (collections_in segments) + segment.index.collection.documents ≤ most_joined
    → IsInRange segment.index.collection → AreSegments more
segments-more segments more segment pushed are at fit in_range =
    let cs : List Collection = collections_in segments in
    let c : Collection = segment.index.collection in
    let now : collections_in more ≡ cs ++ c ∷ [] = collections-more segments more segment pushed in
    record {
      firsts = λ t.
          ap (λ s. lists_in s t) pushed ∙ map-append (λ s. part_of s.first (list_of s.index.collection t)) segments (segment ∷ [])
          ∙ ap (λ ps. ps ++ part_of segment.first (list_of c t) ∷ []) (are.firsts t)
          ∙ ap (λ m. parts_behind 0 cs t ++ part_of m (list_of c t) ∷ []) (at ∙ (let e : documents_in cs ≡ 0 + documents_in cs = omega arith in e))
          ∙ sym (parts-push 0 cs c t) ∙ ap (λ ds. parts_behind 0 ds t) (sym now);
      in_range = subst (All IsInRange) (sym now) (All-append IsInRange cs (c ∷ []) are.in_range (All-cons IsInRange c [] in_range (All-nil IsInRange)));
      few = subst (λ ds. documents_in ds ≤ most_joined) (sym now) (omega (arith, fit, documents-push cs c));
    }

-- no segment
pub segments-none : AreSegments []
segments-none = record { firsts = λ t. refl; in_range = All-nil IsInRange; few = omega arith }

-- ---- the indexes that are joined

-- the index of an opened one
pub index-at : (indexes : List IndexView) (k : ℕ) (opened index : IndexView) → opened ≡ get_or indexes k opened → index ≡ opened → index ≡ get_or indexes k index
index-at indexes k opened index is same = subst (λ i. i ≡ get_or indexes k i) (sym same) is

-- the collections of the first so many indexes and of the next
pub collected-more : (indexes : List IndexView) (cs more : List Collection) (k : ℕ) (index : IndexView) → k < length indexes → index ≡ get_or indexes k index
    → cs ≡ collections_of (take k indexes) → more ≡ cs ++ index.collection ∷ [] → more ≡ collections_of (take (k + 1) indexes)
collected-more indexes cs more k index within is so added =
    let next : suc k ≡ k + 1 = omega arith in
    added ∙ ap (λ ds. ds ++ index.collection ∷ []) so ∙ ap (λ (i : IndexView). collections_of (take k indexes) ++ i.collection ∷ []) is
    ∙ sym (map-append (λ (i : IndexView). i.collection) (take k indexes) (get_or indexes k index ∷ []))
    ∙ ap collections_of (sym (take-suc indexes k index within)) ∙ ap (λ n. collections_of (take n indexes)) next

-- those of all
pub collected-all : (indexes : List IndexView) (cs : List Collection) (k : ℕ) → cs ≡ collections_of (take k indexes) → length indexes ≤ k → cs ≡ collections_of indexes
collected-all indexes cs k so all = so ∙ ap collections_of (take_all k indexes all)

-- the documents of the first so many and of the next are no more than those of all
pub documents-fit : (indexes : List IndexView) (cs : List Collection) (k : ℕ) (index : IndexView) → documents_in (collections_of indexes) ≤ most_joined → k < length indexes → index ≡ get_or indexes k index
    → cs ≡ collections_of (take k indexes) → documents_in cs + index.collection.documents ≤ most_joined
documents-fit indexes cs k index fit within is so =
    let f : IndexView → ℕ = λ i. i.collection.documents in
    let all : documents_in (collections_of indexes) ≡ sum_by f indexes = documents-of indexes in
    let some : documents_in (collections_of (take k indexes)) ≡ sum_by f (take k indexes) = documents-of (take k indexes) in
    let this : f index ≡ f (get_or indexes k index) = ap f is in
    omega (arith, fit, all, some, this, ap documents_in so, sum_by_more f indexes k index within, sum_by-take-le f indexes (k + 1))
  where
    documents-of : (indexes : List IndexView) → documents_in (collections_of indexes) ≡ sum_by (λ (i : IndexView). i.collection.documents) indexes
    documents-of [] = refl
    documents-of (index ∷ indexes) =
        sum_by-cons (λ (d : Collection). d.documents) index.collection (collections_of indexes) ∙ ap (λ n. index.collection.documents + n) (documents-of indexes)
        ∙ sym (sum_by-cons (λ (i : IndexView). i.collection.documents) index indexes)

-- ---- the greatest of what segments have

most-more : (cs : List Collection) (k : ℕ) (c : Collection) → k < length cs → c ≡ get_or cs k c → most_terms_in (take (k + 1) cs) ≡ max (most_terms_in (take k cs)) (length c.lists)
most-more [] k c within is = absurd (omega arith)
most-more (x ∷ cs) zero c within is = ap (λ (d : Collection). max (length d.lists) 0) (sym is) ∙ omega arith
most-more (x ∷ cs) (suc k) c within is =
    let next : suc k + 1 ≡ suc (k + 1) = omega arith in
    let rest : most_terms_in (take (k + 1) cs) ≡ max (most_terms_in (take k cs)) (length c.lists) = most-more cs k c (omega (arith, within)) is in
    ap (λ n. most_terms_in (take n (x ∷ cs))) next ∙ omega (arith, rest)

-- the most terms of the first k segments, and of one more
pub terms-more : (segments : List Segment) (k most terms new : ℕ) (segment : Segment) → k < length segments → segment ≡ get_or segments k segment → terms ≡ length segment.index.collection.lists
    → new ≡ max terms most → most ≡ most_terms_in (take k (collections_in segments)) → new ≡ most_terms_in (take (k + 1) (collections_in segments))
terms-more segments k most terms new segment within is has more so =
    let of : Segment → Collection = λ s. s.index.collection in
    let at : segment.index.collection ≡ get_or (collections_in segments) k segment.index.collection = ap of is ∙ sym (get_or-map of segments k segment segment.index.collection within) in
    let step = most-more (collections_in segments) k segment.index.collection (omega (arith, within, length-map segments of)) at in
    omega (arith, step, has, more, so)

pub terms-all : (segments : List Segment) (k most : ℕ) → length segments ≤ k → most ≡ most_terms_in (take k (collections_in segments)) → most ≡ most_terms_in (collections_in segments)
terms-all segments k most all so = so ∙ ap most_terms_in (take_all k (collections_in segments) (omega (arith, all, length-map segments (λ (s : Segment). s.index.collection))))

-- how many lists a walk over the first k segments looks at
pub record AreWalked (segments : List Segment) (k most : ℕ) : Type 0 where
  pub within : most ≤ most_terms_in (take k (collections_in segments))
  pub rest : (t : ℕ) → most ≤ t → All (λ c. list_of c t ≡ []) (take k (collections_in segments))

pub walked-none : (segments : List Segment) → AreWalked segments 0 0
walked-none segments = record { within = omega arith; rest = λ t le. All-nil (λ c. list_of c t ≡ []) }

pub walked-more : (segments : List Segment) (k most walked new : ℕ) (segment : Segment) → k < length segments → segment ≡ get_or segments k segment
    → walked ≤ length segment.index.collection.lists → ((t : ℕ) → walked ≤ t → list_of segment.index.collection t ≡ []) → new ≡ max walked most
    → AreWalked segments k most → AreWalked segments (k + 1) new
walked-more segments k most walked new segment within is has none more so =
    let of : Segment → Collection = λ s. s.index.collection in
    let cs : List Collection = collections_in segments in
    let c : Collection = segment.index.collection in
    let inside : k < length cs = omega (arith, within, length-map segments of) in
    let at : c ≡ get_or cs k c = ap of is ∙ sym (get_or-map of segments k segment c within) in
    let step = most-more cs k c inside at in
    record {
      within = omega (arith, step, has, more, so.within);
      rest = λ t le.
          let here : list_of c t ≡ [] = none t (omega (arith, le, more)) in
          All-more (λ d. list_of d t ≡ []) cs k c inside (so.rest t (omega (arith, le, more))) (subst (λ (d : Collection). list_of d t ≡ []) at here);
    }

pub walked-all : (segments : List Segment) (k most : ℕ) → length segments ≤ k → AreWalked segments k most
    → (most ≤ most_terms_in (collections_in segments)) × ((t : ℕ) → most ≤ t → All (λ c. list_of c t ≡ []) (collections_in segments))
walked-all segments k most all so =
    let every : take k (collections_in segments) ≡ collections_in segments = take_all k (collections_in segments) (omega (arith, all, length-map segments (λ (s : Segment). s.index.collection))) in
    (omega (arith, so.within, ap most_terms_in every), λ t le. subst (All (λ c. list_of c t ≡ [])) every (so.rest t le))

-- where no segment has a posting of a term, neither have all
no-posting : (n : ℕ) (cs : List Collection) (t : ℕ) → All (λ c. list_of c t ≡ []) cs → joined_list (parts_behind n cs t) ≡ []
no-posting n [] t none = refl
no-posting n (c ∷ cs) t none =
    let here : list_of c t ≡ [] = All-head (λ d. list_of d t ≡ []) c cs none in
    ap (λ list. shifted n list ++ joined_list (parts_behind (n + c.documents) cs t)) here ∙ no-posting (n + c.documents) cs t (All-tail (λ d. list_of d t ≡ []) c cs none)

pub none-joined : (cs : List Collection) (t : ℕ) → ListsAreJoined → All (λ c. list_of c t ≡ []) cs → list_of (joined_wide cs) t ≡ []
none-joined cs t same none = same cs t ∙ no-posting 0 cs t none

-- ---- the sizes of segments, one behind the other

pub sizes-more : (segments : List Segment) (k : ℕ) (segment : Segment) (sizes more : List ℕ) → k < length segments → segment ≡ get_or segments k segment
    → sizes ≡ flat_map (λ (c : Collection). c.sizes) (take k (collections_in segments)) → more ≡ sizes ++ segment.index.collection.sizes
    → more ≡ flat_map (λ (c : Collection). c.sizes) (take (k + 1) (collections_in segments))
sizes-more segments k segment sizes more within is so added =
    let of : Segment → Collection = λ s. s.index.collection in
    let cs : List Collection = collections_in segments in
    let c : Collection = segment.index.collection in
    let at : c ≡ get_or cs k c = ap of is ∙ sym (get_or-map of segments k segment c within) in
    let next : suc k ≡ k + 1 = omega arith in
    let one : (cs : List Collection) (c : Collection) → flat_map (λ (d : Collection). d.sizes) (cs ++ c ∷ []) ≡ flat_map (λ (d : Collection). d.sizes) cs ++ c.sizes = one-behind in
    added ∙ ap (λ l. l ++ c.sizes) so ∙ sym (one (take k cs) c) ∙ ap (λ d. flat_map (λ (e : Collection). e.sizes) (take k cs ++ d ∷ [])) at
    ∙ ap (flat_map (λ (d : Collection). d.sizes)) (sym (take-suc cs k c (omega (arith, within, length-map segments of)))) ∙ ap (λ n. flat_map (λ (d : Collection). d.sizes) (take n cs)) next
  where
    one-behind : (cs : List Collection) (c : Collection) → flat_map (λ (d : Collection). d.sizes) (cs ++ c ∷ []) ≡ flat_map (λ (d : Collection). d.sizes) cs ++ c.sizes
    one-behind [] c = append-nil c.sizes
    one-behind (x ∷ cs) c = ap (λ l. x.sizes ++ l) (one-behind cs c) ∙ sym (append_assoc x.sizes (flat_map (λ (d : Collection). d.sizes) cs) c.sizes)

pub sizes-all : (segments : List Segment) (k : ℕ) (sizes : List ℕ) → length segments ≤ k → sizes ≡ flat_map (λ (c : Collection). c.sizes) (take k (collections_in segments))
    → sizes ≡ flat_map (λ (c : Collection). c.sizes) (collections_in segments)
sizes-all segments k sizes all so =
    so ∙ ap (flat_map (λ (c : Collection). c.sizes)) (take_all k (collections_in segments) (omega (arith, all, length-map segments (λ (s : Segment). s.index.collection))))

-- ---- the frequencies of segments

pub total-within : (format : Format) (c : Collection) (t : ℕ) → WellFormed (numbers_of format) c → total_at t c ≤ most_total
total-within format c t good = elim (cases_lt t (length c.lists)) as (λ _. total_at t c ≤ most_total) [
  | inl within ↦
      let is : IsPostingList (numbers_of format) c.documents (list_of c t) = All-get_or (IsPostingList (numbers_of format) c.documents) c.lists t [] within good.lists in
      le format is.sum_within
  | inr past ↦ rw (get_or_past c.lists t [] past) (omega arith)
]
  where
    le : {n : ℕ} (format : Format) → n ≤ (numbers_of format).most_sum → n ≤ most_total
    le One few = omega (arith, few)
    le Two few = few
    le Three few = few

-- the sum of the first k segments, and of one more
pub total-more : (segments : List Segment) (t k total one : ℕ) (segment : Segment) → k < length segments → segment ≡ get_or segments k segment → one ≡ total_at t segment.index.collection
    → total ≡ total_of (take k (collections_in segments)) t → total + one ≡ total_of (take (k + 1) (collections_in segments)) t
total-more segments t k total one segment within is has so =
    let of : Segment → Collection = λ s. s.index.collection in
    let cs : List Collection = collections_in segments in
    let c : Collection = segment.index.collection in
    let at : c ≡ get_or cs k c = ap of is ∙ sym (get_or-map of segments k segment c within) in
    let step = sum_by_more (total_at t) cs k c (omega (arith, within, length-map segments of)) in
    omega (arith, step, has, so, ap (total_at t) at)

pub total-all : (segments : List Segment) (t k : ℕ) → length segments ≤ k → total_of (take k (collections_in segments)) t ≡ total_of (collections_in segments) t
total-all segments t k all = ap (λ cs. total_of cs t) (take_all k (collections_in segments) (omega (arith, all, length-map segments (λ (s : Segment). s.index.collection))))

-- a term without postings has no frequencies
pub total-none : (cs : List Collection) (t : ℕ) → All (λ c. list_of c t ≡ []) cs → total_of cs t ≡ 0
total-none [] t none = refl
total-none (c ∷ cs) t none =
    let here : total_at t c ≡ 0 = ap (λ list. sum (freqs_of list)) (All-head (λ d. list_of d t ≡ []) c cs none) in
    let rest : total_of cs t ≡ 0 = total-none cs t (All-tail (λ d. list_of d t ≡ []) c cs none) in
    sum_by-cons (total_at t) c cs ∙ omega (arith, here, rest)

-- ---- cursors that are made one after the other

pub lists-pushed : {C : Type 0} (list_at : C → List Posting) (segments : List Segment) (t k : ℕ) (parts more : List (ℕ × C)) (segment : Segment) (cursor : C) →
    parts_of list_at parts ≡ lists_in (take k segments) t → more ≡ parts ++ (segment.first, cursor) ∷ [] → list_at cursor ≡ list_of segment.index.collection t
    → segment ≡ get_or segments k segment → k < length segments → parts_of list_at more ≡ lists_in (take (k + 1) segments) t
lists-pushed list_at segments t k parts more segment cursor so pushed of is within =
    let next : suc k ≡ k + 1 = omega arith in
    ap (parts_of list_at) pushed ∙ map-append (λ p. part_of p.0 (list_at p.1)) parts ((segment.first, cursor) ∷ [])
    ∙ (λ i. so i ++ part_of segment.first (of i) ∷ [])
    ∙ ap (λ (s : Segment). lists_in (take k segments) t ++ part_of s.first (list_of s.index.collection t) ∷ []) is
    ∙ sym (map-append (λ (s : Segment). part_of s.first (list_of s.index.collection t)) (take k segments) (get_or segments k segment ∷ []))
    ∙ ap (λ s. lists_in s t) (sym (take-suc segments k segment within)) ∙ ap (λ n. lists_in (take n segments) t) next

pub starts-pushed : {C : Type 0} (place_at : C → ℕ) (parts more : List (ℕ × C)) (first : ℕ) (cursor : C) →
    All (λ p. place_at p.1 ≡ 0) parts → more ≡ parts ++ (first, cursor) ∷ [] → place_at cursor ≡ 0 → All (λ p. place_at p.1 ≡ 0) more
starts-pushed {C} place_at parts more first cursor so pushed start =
    let P : ℕ × C → Type 0 = λ p. place_at p.1 ≡ 0 in
    subst (All P) (sym pushed) (All-append P parts ((first, cursor) ∷ []) so (All-cons P (first, cursor) [] start (All-nil P)))

-- what holds of the collections of segments holds of that of each
pub one-of : (P : Collection → Type 0) (segments : List Segment) (k : ℕ) (segment : Segment) → All P (collections_in segments) → k < length segments → segment ≡ get_or segments k segment → P segment.index.collection
one-of P segments k segment all within is =
    let c : Collection = segment.index.collection in
    subst P (get_or-map (λ (s : Segment). s.index.collection) segments k segment c within ∙ ap (λ (s : Segment). s.index.collection) (sym is))
    (All-get_or P (collections_in segments) k c (omega (arith, within, length-map segments (λ (s : Segment). s.index.collection))) all)

-- and of their lists of a term
pub list-of : (P : ListPart → Type 0) (segments : List Segment) (t k : ℕ) (segment : Segment) → All P (lists_in segments t) → k < length segments → segment ≡ get_or segments k segment
    → P (part_of segment.first (list_of segment.index.collection t))
list-of P segments t k segment all within is =
    let part : Segment → ListPart = λ s. part_of s.first (list_of s.index.collection t) in
    subst P (get_or-map part segments k segment (part segment) within ∙ ap part (sym is)) (All-get_or P (lists_in segments t) k (part segment) (omega (arith, within, length-map segments part)) all)

-- the parts of a term follow one another
pub parts-follow : (segments : List Segment) (t : ℕ) (parts : List ListPart) → ListsFollow → AreSegments segments → parts ≡ lists_in segments t → FollowInOrder parts
parts-follow segments t parts follow are is =
    subst FollowInOrder (sym (is ∙ are.firsts t)) (follow (collections_in segments) t are.in_range are.few)

-- and are its list
pub parts-joined : (segments : List Segment) (t : ℕ) (parts : List ListPart) → ListsAreJoined → AreSegments segments → parts ≡ lists_in segments t → joined_list parts ≡ list_of (joined_wide (collections_in segments)) t
parts-joined segments t parts same are is = ap joined_list (is ∙ are.firsts t) ∙ sym (same (collections_in segments) t)

-- ---- the most terms of segments, as those of the joined collection

pub terms-joined : (cs : List Collection) → length (joined_wide cs).lists ≡ most_terms_in cs
terms-joined cs = length-map-range_with_len (λ t. joined_list (parts_behind 0 cs t)) 0 (most_terms_in cs)

-- ---- a list that is too frequent

pub too-frequent : (cs : List Collection) (t s : ℕ) (r : Option ℕ) → ((u : ℕ) → u < t → total_of cs u ≤ most_total) → PassesAt cs t r → r ≡ Some s → AreTooFrequent cs s
too-frequent cs t s None least at is = absurd cc
too-frequent cs t s (Some k) least at is =
    let same : k ≡ s = cc in
    subst (AreTooFrequent cs) same (record { term = t; least = least; before = at.0; passed = at.1 })

pub not-passed : (cs : List Collection) (t : ℕ) (r : Option ℕ) → PassesAt cs t r → is_some r ≡ false → total_of cs t ≤ most_total
not-passed cs t None at is = at
not-passed cs t (Some k) at is = absurd cc

pub sums-fit : (cs : List Collection) (walked : ℕ) → ((t : ℕ) → t < walked → total_of cs t ≤ most_total) → ((t : ℕ) → walked ≤ t → All (λ c. list_of c t ≡ []) cs) → SumsFit cs
sums-fit cs walked few none t = elim (cases_lt t walked) as (λ _. total_of cs t ≤ most_total) [
  | inl within ↦ few t within
  | inr past ↦ rw (total-none cs t (none t past)) (omega arith)
]
