-- The ranges into which a collection is cut are joined to it.
use Rattle.std.proofs.Common.{◌≡◌, refl, sym, ap, ◌∙◌, subst, ℕ, suc, ◌+◌, ◌-◌, ◌<◌, ◌≤◌, Bool, true, false, cond, List, [], ◌∷◌, ◌++◌, length, get_or, take, drop, inl, inr, arith, drop_of_length-le}
use Rattle.std.specs.Prelude.{◌&&◌, nat_le, nat_lt, flat_map, filter, map, sum}
use Rattle.std.specs.List.{All, range_with_len}
use Rattle.std.specs.List.Sorted.{IsStrictlyIncreasing}
use Rattle.std.proofs.lemmas.Bool.{cases_lt}
use Rattle.std.proofs.lemmas.Bool.Decides.{nat_tests}
use Rattle.std.proofs.lemmas.List.{drop-drop, get_or-map, get_or_past, length-map, take-append-drop}
use Rattle.std.proofs.lemmas.List.Sums.{sum_by-cons}
use Rattle.std.proofs.lemmas.List.Elements.{All-cons, All-get_or, All-head, All-nil, All-tail}
use Rattle.std.proofs.lemmas.List.FromFn.{fill_by_all}
use Rattle.collection_model.specs.Collection.{Posting, Collection, IsPostingList, docs_of, list_of}
use Rattle.segments.specs.Joined.{shifted, joined_list, parts_behind, documents_in, terms_in}
use Rattle.segments.specs.Laws.{RangesAreJoined}
use Rattle.segments.specs.Ranges.{list_in, range_of, ranges_of}

-- whether a document is in a range
abbrev is-in : ℕ → ℕ → Posting → Bool
is-in first count p = nat_le first p.doc && nat_lt p.doc (first + count)

-- the postings of a list in a range
abbrev window : ℕ → ℕ → List Posting → List Posting
window first count list = filter (is-in first count) list

kept : (first count : ℕ) (p : Posting) (list : List Posting) → first ≤ p.doc → p.doc < first + count → window first count (p ∷ list) ≡ p ∷ window first count list
kept first count p list low high =
    let is : is-in first count p ≡ true = grind (arith, nat_tests, low, high) in
    ap (λ b. cond b (p ∷ window first count list) (window first count list)) is

below : (first count : ℕ) (p : Posting) (list : List Posting) → p.doc < first → window first count (p ∷ list) ≡ window first count list
below first count p list low =
    let is : is-in first count p ≡ false = grind (arith, nat_tests, low) in
    ap (λ b. cond b (p ∷ window first count list) (window first count list)) is

above : (first count : ℕ) (p : Posting) (list : List Posting) → first + count ≤ p.doc → window first count (p ∷ list) ≡ window first count list
above first count p list high =
    let is : is-in first count p ≡ false = grind (arith, nat_tests, high) in
    ap (λ b. cond b (p ∷ window first count list) (window first count list)) is

-- no document is in a range of none
window-none : (first : ℕ) (list : List Posting) → window first 0 list ≡ []
window-none first [] = refl
window-none first (p ∷ list) = elim (cases_lt p.doc first) as (λ _. window first 0 (p ∷ list) ≡ []) [
  | inl low ↦ below first 0 p list low ∙ window-none first list
  | inr high ↦ above first 0 p list (omega (arith, high)) ∙ window-none first list
]

-- all are in that of all
window-all : (count : ℕ) (list : List Posting) → All (λ d. d < count) (docs_of list) → window 0 count list ≡ list
window-all count [] all = refl
window-all count (p ∷ list) all =
    let here : p.doc < count = All-head (λ d. d < count) p.doc (docs_of list) all in
    kept 0 count p list (omega arith) (omega (arith, here)) ∙ ap (λ l. p ∷ l) (window-all count list (All-tail (λ d. d < count) p.doc (docs_of list) all))

-- documents behind a range are none of it
behind : (first count : ℕ) (list : List Posting) → All (λ d. first + count ≤ d) (docs_of list) → window first count list ≡ []
behind first count [] all = refl
behind first count (p ∷ list) all =
    above first count p list (All-head (λ d. first + count ≤ d) p.doc (docs_of list) all) ∙ behind first count list (All-tail (λ d. first + count ≤ d) p.doc (docs_of list) all)

-- and of a longer one they are those of the next
longer : (first count more : ℕ) (list : List Posting) → All (λ d. first + count ≤ d) (docs_of list) → window (first + count) more list ≡ window first (count + more) list
longer first count more [] all = refl
longer first count more (p ∷ list) all =
    let here : first + count ≤ p.doc = All-head (λ d. first + count ≤ d) p.doc (docs_of list) all in
    let rest = longer first count more list (All-tail (λ d. first + count ≤ d) p.doc (docs_of list) all) in
    elim (cases_lt p.doc (first + count + more)) as (λ _. window (first + count) more (p ∷ list) ≡ window first (count + more) (p ∷ list)) [
      | inl low ↦ kept (first + count) more p list here low ∙ ap (λ l. p ∷ l) rest ∙ sym (kept first (count + more) p list (omega (arith, here)) (omega (arith, low)))
      | inr high ↦ above (first + count) more p list high ∙ rest ∙ sym (above first (count + more) p list (omega (arith, high)))
    ]

-- the documents behind the first of a rising list are above it
rising-rest : (p : Posting) (list : List Posting) → IsStrictlyIncreasing (docs_of (p ∷ list)) → IsStrictlyIncreasing (docs_of list)
rising-rest p list rising k within =
    let next : suc k + 1 ≡ suc (k + 1) = omega arith in
    subst (λ j. get_or (docs_of list) k 0 < get_or (docs_of (p ∷ list)) j 0) next (rising (suc k) (omega (arith, within)))

rising-above : (p : Posting) (list : List Posting) (low : ℕ) → IsStrictlyIncreasing (docs_of (p ∷ list)) → low ≤ p.doc → All (λ d. low ≤ d) (docs_of list)
rising-above p [] low rising le = All-nil (λ d. low ≤ d)
rising-above p (q ∷ list) low rising le =
    let next : p.doc < q.doc = rising 0 (omega arith) in
    All-cons (λ d. low ≤ d) q.doc (docs_of list) (omega (arith, next, le)) (rising-above q list low (rising-rest p (q ∷ list) rising) (omega (arith, next, le)))

-- a range and the next one
window-append : (first count more : ℕ) (list : List Posting) → IsStrictlyIncreasing (docs_of list) → window first count list ++ window (first + count) more list ≡ window first (count + more) list
window-append first count more [] rising = refl
window-append first count more (p ∷ list) rising =
    let rest = window-append first count more list (rising-rest p list rising) in
    let later : List Posting = window (first + count) more list in
    elim (cases_lt p.doc first) as (λ _. window first count (p ∷ list) ++ window (first + count) more (p ∷ list) ≡ window first (count + more) (p ∷ list)) [
      | inl low ↦
          (λ i. below first count p list low i ++ below (first + count) more p list (omega (arith, low)) i) ∙ rest ∙ sym (below first (count + more) p list low)
      | inr high ↦ elim (cases_lt p.doc (first + count)) as (λ _. window first count (p ∷ list) ++ window (first + count) more (p ∷ list) ≡ window first (count + more) (p ∷ list)) [
        | inl inside ↦
            (λ i. kept first count p list high inside i ++ below (first + count) more p list inside i) ∙ ap (λ l. p ∷ l) rest
            ∙ sym (kept first (count + more) p list high (omega (arith, inside)))
        | inr past ↦
            let all : All (λ d. first + count ≤ d) (docs_of (p ∷ list)) = All-cons (λ d. first + count ≤ d) p.doc (docs_of list) past (rising-above p list (first + count) rising past) in
            ap (λ l. l ++ window (first + count) more (p ∷ list)) (behind first count (p ∷ list) all) ∙ longer first count more (p ∷ list) all
      ]
    ]

-- postings counted from a first document and then on from it are as they were
counted-back : (first : ℕ) (list : List Posting) → All (λ d. first ≤ d) (docs_of list) → shifted first (map (λ p. record { doc = p.doc - first; freq = p.freq }) list) ≡ list
counted-back first [] all = refl
counted-back first (p ∷ list) all =
    let low : first ≤ p.doc = All-head (λ d. first ≤ d) p.doc (docs_of list) all in
    let same : first + (p.doc - first) ≡ p.doc = omega (arith, low) in
    (λ i. record { doc = same i; freq = p.freq } ∷ counted-back first list (All-tail (λ d. first ≤ d) p.doc (docs_of list) all) i)

window-above : (first count : ℕ) (list : List Posting) → All (λ d. first ≤ d) (docs_of (window first count list))
window-above first count [] = All-nil (λ d. first ≤ d)
window-above first count (p ∷ list) = elim (cases_lt p.doc first) as (λ _. All (λ d. first ≤ d) (docs_of (window first count (p ∷ list)))) [
  | inl low ↦ rw (below first count p list low) (window-above first count list)
  | inr high ↦ elim (cases_lt p.doc (first + count)) as (λ _. All (λ d. first ≤ d) (docs_of (window first count (p ∷ list)))) [
    | inl inside ↦ rw (kept first count p list high inside) (All-cons (λ d. first ≤ d) p.doc (docs_of (window first count list)) high (window-above first count list))
    | inr past ↦ rw (above first count p list past) (window-above first count list)
  ]
]

list-at : (c : Collection) (first count t : ℕ) → list_of (range_of c first count) t ≡ list_in first count (list_of c t)
list-at c first count t = elim (cases_lt t (length c.lists)) as (λ _. list_of (range_of c first count) t ≡ list_in first count (list_of c t)) [
  | inl within ↦ get_or-map (list_in first count) c.lists t [] [] within
  | inr past ↦ get_or_past (map (list_in first count) c.lists) t [] (omega (arith, past, length-map c.lists (list_in first count))) ∙ sym (ap (list_in first count) (get_or_past c.lists t [] past))
]

-- the lists of some ranges, one after the other, are the range of all
ranges-joined : (c : Collection) (t first : ℕ) (counts : List ℕ) → IsStrictlyIncreasing (docs_of (list_of c t))
    → joined_list (parts_behind first (ranges_of c first counts) t) ≡ window first (sum counts) (list_of c t)
ranges-joined c t first [] rising = sym (window-none first (list_of c t))
ranges-joined c t first (count ∷ counts) rising =
    let list : List Posting = list_of c t in
    let all : sum (count ∷ counts) ≡ count + sum counts = sum_by-cons (λ n. n) count counts in
    (λ i. (ap (shifted first) (list-at c first count t) ∙ counted-back first (window first count list) (window-above first count list)) i ++ ranges-joined c t (first + count) counts rising i)
    ∙ window-append first count (sum counts) list rising
    ∙ ap (λ n. window first n list) (sym all)

ranges-documents : (c : Collection) (first : ℕ) (counts : List ℕ) → documents_in (ranges_of c first counts) ≡ sum counts
ranges-documents c first [] = refl
ranges-documents c first (count ∷ counts) =
    sum_by-cons (λ (d : Collection). d.documents) (range_of c first count) (ranges_of c (first + count) counts)
    ∙ ap (λ n. count + n) (ranges-documents c (first + count) counts) ∙ sym (sum_by-cons (λ n. n) count counts)

ranges-sizes : (c : Collection) (first : ℕ) (counts : List ℕ) → length c.sizes ≤ first + sum counts → flat_map (λ d. d.sizes) (ranges_of c first counts) ≡ drop first c.sizes
ranges-sizes c first [] all = sym (drop_of_length-le c.sizes (omega (arith, all)))
ranges-sizes c first (count ∷ counts) all =
    let more : sum (count ∷ counts) ≡ count + sum counts = sum_by-cons (λ n. n) count counts in
    ap (λ l. take count (drop first c.sizes) ++ l) (ranges-sizes c (first + count) counts (omega (arith, all, more)) ∙ sym (drop-drop count first c.sizes))
    ∙ take-append-drop count (drop first c.sizes)

ranges-terms : (c : Collection) (first : ℕ) (counts : List ℕ) → 0 < length counts → terms_in (ranges_of c first counts) ≡ length c.lists
ranges-terms c first [] some = absurd (omega (arith, some))
ranges-terms c first (count ∷ counts) some = length-map c.lists (list_in first count)

pub ranges-are_joined : RangesAreJoined
ranges-are_joined format c counts good some sums =
    let cs : List Collection = ranges_of c 0 counts in
    let f : ℕ → List Posting = λ t. joined_list (parts_behind 0 cs t) in
    let terms : terms_in cs ≡ length c.lists = ranges-terms c 0 counts some in
    let each : (t : ℕ) → t < length c.lists → list_of c t ≡ f t = λ t within.
    let is : IsPostingList format c.documents (list_of c t) = All-get_or (IsPostingList format c.documents) c.lists t [] within good.lists in
    sym (ranges-joined c t 0 counts is.rising ∙ ap (λ n. window 0 n (list_of c t)) sums ∙ window-all c.documents (list_of c t) is.in_range) in
    let documents : documents_in cs ≡ c.documents = ranges-documents c 0 counts ∙ sums in
    let lists : map f (range_with_len 0 (terms_in cs)) ≡ c.lists = ap (λ n. map f (range_with_len 0 n)) terms ∙ sym (fill_by_all f c.lists (length c.lists) [] refl each) in
    let sizes : flat_map (λ d. d.sizes) cs ≡ c.sizes = ranges-sizes c 0 counts (omega (arith, sums, good.size_each)) in
    (λ i. record { documents = documents i; lists = lists i; sizes = sizes i })
