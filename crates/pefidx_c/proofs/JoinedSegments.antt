-- Segments that are joined one after the other, with what is kept of each.
use Rattle.std.proofs.Common.{◌≡◌, refl, sym, ◌∙◌, ap, ℕ, zero, suc, ◌+◌, ◌<◌, ◌≤◌, List, [], ◌∷◌, ◌++◌, length, map, take, drop, get_or, inl, inr, add-one, drop-cons, arith}
use Rattle.std.specs.Prelude.{flat_map, Result, Ok, Err, IfOk}
use Rattle.std.proofs.lemmas.List.{length-map, map-append, get_or-map, take_all}
use Rattle.std.proofs.lemmas.List.Concat.{flat_map-cons}
use Rattle.std.proofs.lemmas.List.Sums.{sum_by_more_le}
use Rattle.std.proofs.Math.Seq.{take-suc}
use Rattle.collection_model.specs.Collection.{Collection}
use Rattle.index_reading.specs.declared.joined.JoinedIndexes.{JoinedIndexes}
use Rattle.index_reading.specs.JoinedSegments as read
use Rattle.no_memory.specs.declared.NoMemory.{NoMemory}
use Rattle.segments.specs.Joined.{documents_in, joined, joined_wide, most_joined, FitTogether}
use Rattle.segments.specs.Laws.{WideIsJoined}
use Rattle.pefidx_c.specs.declared.segment.Segment.{Segment}
use Rattle.pefidx_c.specs.Asked.{collection_in}
use Rattle.pefidx_c.specs.Kept.{numbers_of_lists, numbers_beside}
use Rattle.pefidx_c.specs.Segments.{AreKeptOfEach, collections_in, words_in}

-- the collection of a segment is among those of all
collection-at : (words : List ℕ) (segments : List Segment) (k : ℕ) (s : Segment) → k < length segments → s ≡ get_or segments k s
    → get_or (collections_in words segments) k (collection_in (words_in words s)) ≡ collection_in (words_in words s)
collection-at words segments k s within is =
    let of : Segment → Collection = λ s. collection_in (words_in words s) in
    get_or-map of segments k s (of s) within ∙ sym (ap of is)

-- the first so many and the next
pub joined-more : (words : List ℕ) (segments : List Segment) (k : ℕ) (s : Segment) (cs more : List Collection) (c : Collection) → k < length segments → s ≡ get_or segments k s
    → cs ≡ collections_in words (take k segments) → more ≡ cs ++ c ∷ [] → c ≡ collection_in (words_in words s) → more ≡ collections_in words (take (k + 1) segments)
joined-more words segments k s cs more c within is so added at =
    let of : Segment → Collection = λ s. collection_in (words_in words s) in
    let next : suc k ≡ k + 1 = omega arith in
    added ∙ ap (λ ds. ds ++ c ∷ []) so ∙ ap (λ d. collections_in words (take k segments) ++ d ∷ []) at
    ∙ ap (λ x. collections_in words (take k segments) ++ of x ∷ []) is
    ∙ sym (map-append of (take k segments) (get_or segments k s ∷ []))
    ∙ ap (map of) (sym (take-suc segments k s within)) ∙ ap (λ n. collections_in words (take n segments)) next

pub joined-all : (words : List ℕ) (segments : List Segment) (k : ℕ) (cs : List Collection) → length segments ≤ k → cs ≡ collections_in words (take k segments) → cs ≡ collections_in words segments
joined-all words segments k cs past so = so ∙ ap (collections_in words) (take_all k segments past)

-- their documents are no more than those of all
pub documents-fit : (words : List ℕ) (segments : List Segment) (k : ℕ) (s : Segment) (cs : List Collection) (c : Collection) → documents_in (collections_in words segments) ≤ most_joined
    → k < length segments → s ≡ get_or segments k s → cs ≡ collections_in words (take k segments) → c ≡ collection_in (words_in words s) → documents_in cs + c.documents ≤ most_joined
documents-fit words segments k s cs c fit within is so at =
    let all : List Collection = collections_in words segments in
    let of : Segment → Collection = λ s. collection_in (words_in words s) in
    let inside : k < length all = omega (arith, within, length-map segments of) in
    let first : cs ≡ take k all = so ∙ map-take of k segments in
    let here : (get_or all k c).documents ≡ c.documents = ap (λ (d : Collection). d.documents) (same-default all k c (of s) inside ∙ collection-at words segments k s within is ∙ sym at) in
    omega (arith, fit, here, ap documents_in first, sum_by_more_le (λ (d : Collection). d.documents) all k c inside)
  where
    map-take : (f : Segment → Collection) (k : ℕ) (xs : List Segment) → map f (take k xs) ≡ take k (map f xs)
    map-take f zero xs = refl
    map-take f (suc k) [] = refl
    map-take f (suc k) (x ∷ xs) = ap (λ ys. f x ∷ ys) (map-take f k xs)

    same-default : (xs : List Collection) (k : ℕ) (d e : Collection) → k < length xs → get_or xs k d ≡ get_or xs k e
    same-default [] k d e lt = absurd (omega (arith, lt))
    same-default (x ∷ xs) zero d e lt = refl
    same-default (x ∷ xs) (suc k) d e lt = same-default xs k d e (omega (arith, lt))

-- ---- what is kept
kept-split : (words : List ℕ) (segments : List Segment) (k : ℕ) (s : Segment) → k < length segments → s ≡ get_or segments k s
    → flat_map (λ s. numbers_beside (words_in words s)) (drop k segments) ≡ numbers_beside (words_in words s) ++ flat_map (λ s. numbers_beside (words_in words s)) (drop (k + 1) segments)
kept-split words segments k s within is =
    let f : Segment → List ℕ = λ s. numbers_beside (words_in words s) in
    let split : drop k segments ≡ get_or segments k s ∷ drop (k + 1) segments = rw (add-one, drop-cons segments k s) refl in
    ap (flat_map f) (split ∙ ap (λ x. x ∷ drop (k + 1) segments) (sym is)) ∙ flat_map-cons f s (drop (k + 1) segments)

pub kept-next : (words : List ℕ) (segments : List Segment) (k : ℕ) (s : Segment) (rest starts others : List ℕ) → k < length segments → s ≡ get_or segments k s
    → AreKeptOfEach words (drop k segments) rest → (rest ≡ [] → (starts ≡ []) × (others ≡ []))
    → ((first later : List ℕ) → rest ≡ (length first ∷ first) ++ later → (starts ≡ length first ∷ first) × (others ≡ later))
    → AreKeptOfEach words (drop (k + 1) segments) others
kept-next words segments k s rest starts others within is kept none some =
    elim kept as (λ _. AreKeptOfEach words (drop (k + 1) segments) others) [
      | inl empty ↦ inl (none empty).1
      | inr all ↦ inr (some (numbers_of_lists (words_in words s)) (flat_map (λ s. numbers_beside (words_in words s)) (drop (k + 1) segments)) (all ∙ kept-split words segments k s within is)).1
    ]

-- what is joined where each has as many terms as the first
pub joined-alike : WideIsJoined → (cs : List Collection) (r : Result JoinedIndexes NoMemory) → FitTogether cs → IfOk r (λ j. read.collections_in j.segments.items ≡ cs)
    → IfOk r (λ j. joined_wide (read.collections_in j.segments.items) ≡ joined cs)
joined-alike law cs (Ok j) fit is = ap joined_wide is ∙ law cs fit
joined-alike law cs (Err e) fit is = tt
