-- Lemmas on the documents and the scores of images.
use Rattle.std.proofs.Common.{◌≡◌, refl, sym, ap, inl, inr, ◌∙◌, subst, ℕ, suc, ◌+◌, ◌*◌, ◌<◌, ◌&&◌, Bool, true, false, cond, eqb, List, [], ◌∷◌, map, length, get_or, Some, arith}
use Rattle.std.specs.Prelude.{Contains, ◌||◌}
use Rattle.std.specs.List.{All, sum_by, range_with_len, list_any, list_all, filter, find, zip}
use Rattle.std.specs.List.Sorted.{IsStrictlyIncreasing}
use Rattle.std.specs.Option.{option_map, unwrap_or}
use Rattle.std.proofs.lemmas.Bool.{eqb-true, false≢true, ne_eqb}
use Rattle.std.proofs.lemmas.List.{length-map, get_or-map}
use Rattle.std.proofs.lemmas.List.Elements.{All-filter, All-contains, All-contains_itself, All-head, All-tail, filter_passes}
use Rattle.std.proofs.lemmas.List.FromFn.{length-range_with_len, get_or-range_with_len}
use Rattle.std.proofs.lemmas.List.Kept.{AllPairs-from_increasing, IsStrictlyIncreasing-filter}
use Rattle.std.proofs.lemmas.List.Sums.{sum_by-cons}
use Rattle.std.proofs.lemmas.List.Sorted.{list_any-IsPermutation, sum_by-IsPermutation}
use Rattle.collection_model.specs.Collection.{Posting, docs_of}
use Rattle.scan_plans.specs.Matches.{AreBelow, has_doc, freq_of_doc, in_all, score}
use Rattle.remap.specs.NewIds.{AreNewIds, new_id}
use Rattle.remap.specs.Image.{renamed, IsImageList, AreImageDocs, AreImageLists}
use Rattle.remap.specs.Laws.{MatchesAreImages, ScoresStay}
use Rattle.remap.proofs.Members.{contains-here, contains-there, contains-cases}
use Rattle.remap.proofs.Arranged.{new-id_below, has-document, same-ids}

-- ---- the numbers below n
in-range : (n d : ℕ) → d < n → Contains (range_with_len 0 n) d
in-range n d lt = let l = length-range_with_len 0 n in let e = get_or-range_with_len 0 n d d lt in (d, omega arith, omega arith)

range-below : (n d : ℕ) → Contains (range_with_len 0 n) d → d < n
range-below n d c = let l = length-range_with_len 0 n in let w = c.1 in let e = get_or-range_with_len 0 n c.0 d (omega arith) in let at = c.2 in omega arith

range-rises : (n : ℕ) → IsStrictlyIncreasing (range_with_len 0 n)
range-rises n k within =
    let l = length-range_with_len 0 n in
    let a = get_or-range_with_len 0 n k 0 (omega arith) in
    let b = get_or-range_with_len 0 n (k + 1) 0 (omega arith) in
    omega arith

-- ---- filters
module _ (p : ℕ → Bool) where
  filter-step : (here : Bool) (y : ℕ) (xs : List ℕ) (x : ℕ) → (here ≡ true → Contains (y ∷ xs) x) → (here ≡ false → Contains xs x) → Contains (cond here (y ∷ xs) xs) x
  filter-step true y xs x at more = at refl
  filter-step false y xs x at more = more refl

  in-filter : (xs : List ℕ) (x : ℕ) → Contains xs x → p x ≡ true → Contains (filter p xs) x
  in-filter [] x c is = c
  in-filter (y ∷ xs) x c is =
      filter-step (p y) y (filter p xs) x
      (λ at. elim (contains-cases y xs x c) as (λ _. Contains (y ∷ filter p xs) x) [
        | inl same ↦ subst (λ (z : ℕ). Contains (y ∷ filter p xs) z) same (contains-here y (filter p xs))
        | inr rest ↦ contains-there y (filter p xs) x (in-filter xs x rest is)
      ])
      (λ out. elim (contains-cases y xs x c) as (λ _. Contains (filter p xs) x) [
        | inl same ↦ absurd (false≢true (sym out ∙ ap p same ∙ is))
        | inr rest ↦ in-filter xs x rest is
      ])

  from-filter : (xs : List ℕ) (x : ℕ) → Contains (filter p xs) x → Contains xs x × (p x ≡ true)
  from-filter xs x c = (
    All-contains (Contains xs) (filter p xs) x (All-filter p (Contains xs) xs (All-contains_itself xs)) c,
    All-contains (λ x. p x ≡ true) (filter p xs) x (filter_passes p xs) c,
  )

-- what passes one test of the documents, and what passes another of the new ids, where the tests agree
filters-are : (ids : List ℕ) (p q : ℕ → Bool) → AreNewIds ids → ((d : ℕ) → d < length ids → q (new_id ids d) ≡ p d) → AreImageDocs ids (filter p (range_with_len 0 (length ids))) (filter q (range_with_len 0 (length ids)))
filters-are ids p q are agree = record {
  each = λ d c.
      let from = from-filter p (range_with_len 0 (length ids)) d c in
      let lt = range-below (length ids) d from.0 in
      in-filter q (range_with_len 0 (length ids)) (new_id ids d) (in-range (length ids) (new_id ids d) (new-id_below ids d are lt)) (agree d lt ∙ from.1);
  only = λ e c.
      let from = from-filter q (range_with_len 0 (length ids)) e c in
      let of = has-document ids e are (range-below (length ids) e from.0) in
      (of.0, in-filter p (range_with_len 0 (length ids)) of.0 (in-range (length ids) of.0 of.1) (sym (agree of.0 of.1) ∙ ap q of.2 ∙ from.1), of.2);
  rising = IsStrictlyIncreasing-filter q (range_with_len 0 (length ids)) (range-rises (length ids));
}

-- ---- one list
-- the documents of a list are below the number of documents
abbrev IsBelow : ℕ → List Posting → Type 0
IsBelow n list = All (λ (p : Posting). p.doc < n) list

below-docs : (n : ℕ) (list : List Posting) → All (λ d. d < n) (docs_of list) → IsBelow n list
below-docs n list all k d within = let l = length-map list (λ (p : Posting). p.doc) in let e = get_or-map (λ (p : Posting). p.doc) list k d 0 within in let h = all k 0 (omega arith) in omega arith

has-named : (ids : List ℕ) (d : ℕ) (list : List Posting) → AreNewIds ids → d < length ids → IsBelow (length ids) list → has_doc (new_id ids d) (map (renamed ids) list) ≡ has_doc d list
has-named ids d [] are d_in below = refl
has-named ids d (p ∷ list) are d_in below =
    let here : eqb (new_id ids p.doc) (new_id ids d) ≡ eqb p.doc d = same-ids ids p.doc d are (All-head (λ (p : Posting). p.doc < length ids) p list below) d_in in
    let more = has-named ids d list are d_in (All-tail (λ (p : Posting). p.doc < length ids) p list below) in
    λ i. here i || more i

has-image : (ids : List ℕ) (d : ℕ) (list image : List Posting) → AreNewIds ids → d < length ids → IsBelow (length ids) list → IsImageList ids list image → has_doc (new_id ids d) image ≡ has_doc d list
has-image ids d list image are d_in below is = sym (list_any-IsPermutation (λ (p : Posting). eqb p.doc (new_id ids d)) (map (renamed ids) list) image is.postings) ∙ has-named ids d list are d_in below

-- what a posting has of the frequency of a document
abbrev freq_at : ℕ → Posting → ℕ
freq_at d p = cond (eqb p.doc d) p.freq 0

none-there : (d : ℕ) (list : List Posting) → All (λ (p : Posting). eqb p.doc d ≡ false) list → sum_by (freq_at d) list ≡ 0
none-there d [] all = refl
none-there d (p ∷ list) all =
    let a = sum_by-cons (freq_at d) p list in
    let here : freq_at d p ≡ 0 = ap (λ (b : Bool). cond {A = ℕ} b p.freq 0) (All-head (λ (p : Posting). eqb p.doc d ≡ false) p list all) in
    let more = none-there d list (All-tail (λ (p : Posting). eqb p.doc d ≡ false) p list all) in
    omega arith

freq-step : (here : Bool) (d : ℕ) (p : Posting) (list : List Posting) → (here ≡ true → sum_by (freq_at d) list ≡ 0) → freq_of_doc d list ≡ sum_by (freq_at d) list → unwrap_or (option_map (λ p. p.freq) (cond here (Some p) (find (λ p. eqb p.doc d) list))) 0 ≡ cond here p.freq 0 + sum_by (freq_at d) list
freq-step true d p list none more = let e = none refl in omega arith
freq-step false d p list none more = let z : sum_by (freq_at d) list ≡ 0 + sum_by (freq_at d) list = omega arith in more ∙ z

-- the frequency of a document is the sum of what the postings have of it
freq-sum : (d : ℕ) (list : List Posting) → IsStrictlyIncreasing (docs_of list) → freq_of_doc d list ≡ sum_by (freq_at d) list
freq-sum d [] rising = refl
freq-sum d (p ∷ list) rising =
    let a = sum_by-cons (freq_at d) p list in
    let rest : IsStrictlyIncreasing (docs_of list) = λ k within.
    let next : suc k + 1 ≡ suc (k + 1) = omega arith in
    let h : get_or (docs_of list) k 0 < get_or (docs_of (p ∷ list)) (suc k + 1) 0 = rising (suc k) (omega arith) in
    let r : get_or (docs_of (p ∷ list)) (suc k + 1) 0 ≡ get_or (docs_of list) (k + 1) 0 = ap (λ (i : ℕ). get_or (docs_of (p ∷ list)) i 0) next in
    omega arith in
    freq-step (eqb p.doc d) d p list
    (λ at. none-there d list (λ k e within.
    let same : p.doc ≡ d = eqb-true p.doc d at in
    let l = length-map list (λ (p : Posting). p.doc) in
    let read = get_or-map (λ (p : Posting). p.doc) list k e 0 within in
    let lt = AllPairs-from_increasing (docs_of (p ∷ list)) rising 0 (suc k) 0 (omega arith) (omega arith) in
    ne_eqb (get_or list k e).doc d (λ q. absurd (omega arith))))
    (freq-sum d list rest)
    ∙ sym a

sum-named : (ids : List ℕ) (d : ℕ) (list : List Posting) → AreNewIds ids → d < length ids → IsBelow (length ids) list → sum_by (freq_at (new_id ids d)) (map (renamed ids) list) ≡ sum_by (freq_at d) list
sum-named ids d [] are d_in below = refl
sum-named ids d (p ∷ list) are d_in below =
    let a = sum_by-cons (freq_at (new_id ids d)) (renamed ids p) (map (renamed ids) list) in
    let b = sum_by-cons (freq_at d) p list in
    let here : freq_at (new_id ids d) (renamed ids p) ≡ freq_at d p = ap (λ (b : Bool). cond {A = ℕ} b p.freq 0) (same-ids ids p.doc d are (All-head (λ (p : Posting). p.doc < length ids) p list below) d_in) in
    let more = sum-named ids d list are d_in (All-tail (λ (p : Posting). p.doc < length ids) p list below) in
    omega arith

freq-image : (ids : List ℕ) (d : ℕ) (list image : List Posting) → AreNewIds ids → d < length ids → IsBelow (length ids) list → IsStrictlyIncreasing (docs_of list) → IsImageList ids list image → freq_of_doc (new_id ids d) image ≡ freq_of_doc d list
freq-image ids d list image are d_in below rising is =
    let e : ℕ = new_id ids d in
    freq-sum e image is.rising ∙ sum_by-IsPermutation (freq_at e) (map (renamed ids) list) image is.postings ∙ sum-named ids d list are d_in below ∙ sym (freq-sum d list rising)

-- ---- lists
any-lists : (e d : ℕ) (lists images : List (List Posting)) → length images ≡ length lists → ((t : ℕ) → t < length lists → has_doc e (get_or images t []) ≡ has_doc d (get_or lists t [])) → list_any (has_doc e) images ≡ list_any (has_doc d) lists
any-lists e d [] [] count each = refl
any-lists e d [] (i ∷ is) count each = absurd (omega arith)
any-lists e d (l ∷ ls) [] count each = absurd (omega arith)
any-lists e d (l ∷ ls) (i ∷ is) count each =
    let here = each 0 (omega arith) in
    let more = any-lists e d ls is (omega arith) (λ t within. each (suc t) (omega arith)) in
    λ j. here j || more j

all-lists : (e d : ℕ) (lists images : List (List Posting)) → length images ≡ length lists → ((t : ℕ) → t < length lists → has_doc e (get_or images t []) ≡ has_doc d (get_or lists t [])) → list_all (has_doc e) images ≡ list_all (has_doc d) lists
all-lists e d [] [] count each = refl
all-lists e d [] (i ∷ is) count each = absurd (omega arith)
all-lists e d (l ∷ ls) [] count each = absurd (omega arith)
all-lists e d (l ∷ ls) (i ∷ is) count each =
    let here = each 0 (omega arith) in
    let more = all-lists e d ls is (omega arith) (λ t within. each (suc t) (omega arith)) in
    λ j. here j && more j

has-each : (ids : List ℕ) (d : ℕ) (lists images : List (List Posting)) → AreNewIds ids → d < length ids → AreBelow (length ids) lists → AreImageLists ids lists images → (t : ℕ) → t < length lists → has_doc (new_id ids d) (get_or images t []) ≡ has_doc d (get_or lists t [])
has-each ids d lists images are d_in below is t within = has-image ids d (get_or lists t []) (get_or images t []) are d_in (below-docs (length ids) (get_or lists t []) (below t [] within)) (is.each t within)

in-all_images : (ids : List ℕ) (lists images : List (List Posting)) → AreNewIds ids → AreBelow (length ids) lists → AreImageLists ids lists images → AreImageDocs ids (in_all (length ids) lists) (in_all (length ids) images)
in-all_images ids [] [] are below is = record { each = λ d c. let w = c.1 in absurd (omega arith); only = λ e c. let w = c.1 in absurd (omega arith); rising = λ k within. absurd (omega arith) }
in-all_images ids [] (i ∷ images) are below is = let count = is.count in absurd (omega arith)
in-all_images ids (l ∷ lists) [] are below is = let count = is.count in absurd (omega arith)
in-all_images ids (l ∷ lists) (i ∷ images) are below is =
    filters-are ids (λ d. list_all (has_doc d) (l ∷ lists)) (λ e. list_all (has_doc e) (i ∷ images)) are
    (λ d d_in. all-lists (new_id ids d) d (l ∷ lists) (i ∷ images) is.count (has-each ids d (l ∷ lists) (i ∷ images) are d_in below is))

pub matches-images : MatchesAreImages
matches-images ids lists images are below is = (
  in-all_images ids lists images are below is,
  filters-are ids (λ d. list_any (has_doc d) lists) (λ e. list_any (has_doc e) images) are (λ d d_in. any-lists (new_id ids d) d lists images is.count (has-each ids d lists images are d_in below is)),
)

scores-same : (e d : ℕ) (weights : List ℕ) (lists images : List (List Posting)) → length images ≡ length lists → ((t : ℕ) → t < length lists → freq_of_doc e (get_or images t []) ≡ freq_of_doc d (get_or lists t [])) → score images weights e ≡ score lists weights d
scores-same e d weights [] [] count each = refl
scores-same e d weights [] (i ∷ is) count each = absurd (omega arith)
scores-same e d weights (l ∷ ls) [] count each = absurd (omega arith)
scores-same e d [] (l ∷ ls) (i ∷ is) count each = refl
scores-same e d (w ∷ weights) (l ∷ ls) (i ∷ is) count each =
    let a = sum_by-cons (λ (p : List Posting × ℕ). p.1 * freq_of_doc e p.0) (i, w) (zip is weights) in
    let b = sum_by-cons (λ (p : List Posting × ℕ). p.1 * freq_of_doc d p.0) (l, w) (zip ls weights) in
    let here : w * freq_of_doc e i ≡ w * freq_of_doc d l = ap (λ (f : ℕ). w * f) (each 0 (omega arith)) in
    let more : score is weights e ≡ score ls weights d = scores-same e d weights ls is (omega arith) (λ t within. each (suc t) (omega arith)) in
    omega arith

pub scores-stay : ScoresStay
scores-stay ids weights lists images d are below rising is d_in =
    scores-same (new_id ids d) d weights lists images is.count
    (λ t within. freq-image ids d (get_or lists t []) (get_or images t []) are d_in (below-docs (length ids) (get_or lists t []) (below t [] within)) (rising t [] within) (is.each t within))
