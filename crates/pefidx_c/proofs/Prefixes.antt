-- Lemmas on the longest prefix of some postings that is a posting list, and on lists that are one after the other.
use Rattle.std.proofs.Common.{◌≡◌, refl, sym, ap, ◌∙◌, subst, ℕ, zero, suc, ◌+◌, ◌-◌, ◌^◌, ◌<◌, ◌≤◌, ◌⊎◌, List, [], ◌∷◌, ◌++◌, length, get_or, take, drop, inl, inr, length-append, append_assoc, arith}
use Rattle.std.specs.List.{All}
use Rattle.std.specs.List.Sorted.{IsStrictlyIncreasing}
use Rattle.std.specs.Prelude.{sum}
use Rattle.std.proofs.Math.Seq.{take-suc}
use Rattle.std.proofs.lemmas.Bool.{cases_lt}
use Rattle.std.proofs.lemmas.List.{length-take-le, length_push, get_or_push, get_or_append_left, take_at, take_all, length-drop}
use Rattle.std.proofs.lemmas.List.Sums.{sum_by_push}
use Rattle.std.proofs.lemmas.List.Elements.{All-push}
use Rattle.collection_model.specs.FormatNumbers.{FormatNumbers}
use Rattle.collection_model.specs.Collection.{Posting, postings_of, docs_of, freqs_of, IsPostingList}
use Rattle.collection_model.proofs.Lists.{docs_of-length, docs-of_postings, freqs-of_postings}
use Rattle.pefidx_c.specs.GivenLists.{IsFirstBad, lists_given}
use Rattle.pefidx_c.proofs.NextLists.{next-list}

-- the first postings of documents and frequencies are those of the first documents and frequencies
pub take-postings : (docs freqs : List ℕ) (n : ℕ) → take n (postings_of docs freqs) ≡ postings_of (take n docs) (take n freqs)
take-postings docs freqs zero = refl
take-postings [] freqs (suc n) = refl
take-postings (d ∷ docs) [] (suc n) = refl
take-postings (d ∷ docs) (f ∷ freqs) (suc n) = ap (λ l. record { doc = d; freq = f } ∷ l) (take-postings docs freqs n)

-- ---- one posting more

-- Documents and as many frequencies are those of a posting list.
pub record AreGood (format : FormatNumbers) (n : ℕ) (docs freqs : List ℕ) : Type 0 where
  pub rising : IsStrictlyIncreasing docs
  pub in_range : All (λ d. d < n) docs
  pub not_zero : All (λ f. 1 ≤ f) freqs
  pub fit : All (λ f. f < 2 ^ 32) freqs
  pub sum_within : sum freqs ≤ format.most_sum

pub good-list : (format : FormatNumbers) (n : ℕ) (docs freqs : List ℕ) → length docs ≡ length freqs → AreGood format n docs freqs → IsPostingList format n (postings_of docs freqs)
good-list format n docs freqs same h =
    let d : docs ≡ docs_of (postings_of docs freqs) = sym (docs-of_postings docs freqs same) in
    let f : freqs ≡ freqs_of (postings_of docs freqs) = sym (freqs-of_postings docs freqs same) in
    record {
      rising = subst IsStrictlyIncreasing d h.rising;
      in_range = subst (All (λ d. d < n)) d h.in_range;
      not_zero = subst (All (λ f. 1 ≤ f)) f h.not_zero;
      fit = subst (All (λ f. f < 2 ^ 32)) f h.fit;
      sum_within = subst (λ fs. sum fs ≤ format.most_sum) f h.sum_within;
    }

pub list-good : (format : FormatNumbers) (n : ℕ) (docs freqs : List ℕ) → length docs ≡ length freqs → IsPostingList format n (postings_of docs freqs) → AreGood format n docs freqs
list-good format n docs freqs same h =
    let d : docs_of (postings_of docs freqs) ≡ docs = docs-of_postings docs freqs same in
    let f : freqs_of (postings_of docs freqs) ≡ freqs = freqs-of_postings docs freqs same in
    record {
      rising = subst IsStrictlyIncreasing d h.rising;
      in_range = subst (All (λ d. d < n)) d h.in_range;
      not_zero = subst (All (λ f. 1 ≤ f)) f h.not_zero;
      fit = subst (All (λ f. f < 2 ^ 32)) f h.fit;
      sum_within = subst (λ fs. sum fs ≤ format.most_sum) f h.sum_within;
    }

-- A number is the least document that may come behind some rising ones.
pub record IsLeastAfter (docs : List ℕ) (least : ℕ) : Type 0 where
  pub none : length docs ≡ 0 → least ≡ 0
  pub last : (k : ℕ) → k + 1 ≡ length docs → get_or docs k 0 + 1 ≡ least

pub least-more : (docs : List ℕ) (d : ℕ) → IsLeastAfter (docs ++ d ∷ []) (d + 1)
least-more docs d = record {
  none = λ h. absurd (omega (arith, h, length_push docs d));
  last = λ k h. ap (λ x. x + 1) (get_or_push docs d 0 k (omega (arith, h, length_push docs d)));
}

rising-more : (docs : List ℕ) (d least : ℕ) → IsStrictlyIncreasing docs → IsLeastAfter docs least → least ≤ d → IsStrictlyIncreasing (docs ++ d ∷ [])
rising-more docs d least rising after le k within =
    elim (cases_lt (k + 1) (length docs)) as (λ _. get_or (docs ++ d ∷ []) k 0 < get_or (docs ++ d ∷ []) (k + 1) 0) [
      | inl inside ↦
          let a : get_or (docs ++ d ∷ []) k 0 ≡ get_or docs k 0 = get_or_append_left docs (d ∷ []) 0 k (omega arith) in
          let b : get_or (docs ++ d ∷ []) (k + 1) 0 ≡ get_or docs (k + 1) 0 = get_or_append_left docs (d ∷ []) 0 (k + 1) inside in
          omega (arith, a, b, rising k inside)
      | inr past ↦
          let at : k + 1 ≡ length docs = omega (arith, within, length_push docs d, past) in
          let a : get_or (docs ++ d ∷ []) k 0 ≡ get_or docs k 0 = get_or_append_left docs (d ∷ []) 0 k (omega arith) in
          let b : get_or (docs ++ d ∷ []) (k + 1) 0 ≡ d = get_or_push docs d 0 (k + 1) (sym at) in
          omega (arith, a, b, after.last k at, le)
    ]

pub good-more : (format : FormatNumbers) (n : ℕ) (docs freqs : List ℕ) (d f least total : ℕ) → AreGood format n docs freqs → IsLeastAfter docs least → total ≡ sum freqs
    → least ≤ d → d < n → 1 ≤ f → f < 2 ^ 32 → total + f ≤ format.most_sum → AreGood format n (docs ++ d ∷ []) (freqs ++ f ∷ [])
good-more format n docs freqs d f least total h after is rises within some small fits = record {
  rising = rising-more docs d least h.rising after rises;
  in_range = All-push (λ d. d < n) docs d h.in_range within;
  not_zero = All-push (λ f. 1 ≤ f) freqs f h.not_zero some;
  fit = All-push (λ f. f < 2 ^ 32) freqs f h.fit small;
  sum_within = let more : sum (freqs ++ f ∷ []) ≡ sum freqs + f = sum_by_push (λ x. x) freqs f in omega (arith, more, is, fits);
}

-- and where it may not come
pub bad-more : (format : FormatNumbers) (n : ℕ) (docs freqs : List ℕ) (d f least total : ℕ) → IsLeastAfter docs least → total ≡ sum freqs
    → (d < least) ⊎ (n ≤ d) ⊎ (f ≡ 0) ⊎ (format.most_sum < total + f) → ¬ AreGood format n (docs ++ d ∷ []) (freqs ++ f ∷ [])
bad-more format n docs freqs d f least total after is why h =
    elim why [
      | inl falls ↦ falling falls
      | inr (inl past) ↦
          let at : get_or (docs ++ d ∷ []) (length docs) 0 ≡ d = get_or_push docs d 0 (length docs) refl in
          let below : get_or (docs ++ d ∷ []) (length docs) 0 < n = h.in_range (length docs) 0 (omega (arith, length_push docs d)) in
          omega (arith, at, below, past)
      | inr (inr (inl none)) ↦
          let at : get_or (freqs ++ f ∷ []) (length freqs) 0 ≡ f = get_or_push freqs f 0 (length freqs) refl in
          let some : 1 ≤ get_or (freqs ++ f ∷ []) (length freqs) 0 = h.not_zero (length freqs) 0 (omega (arith, length_push freqs f)) in
          omega (arith, at, some, none)
      | inr (inr (inr large)) ↦
          let more : sum (freqs ++ f ∷ []) ≡ sum freqs + f = sum_by_push (λ x. x) freqs f in
          omega (arith, more, is, large, h.sum_within)
    ]
  where
    falling : d < least → ⊥
    falling falls =
        elim (cases_lt 0 (length docs)) as (λ _. ⊥) [
          | inl some ↦
              let k : ℕ = length docs - 1 in
              let at : k + 1 ≡ length docs = omega arith in
              let a : get_or (docs ++ d ∷ []) k 0 ≡ get_or docs k 0 = get_or_append_left docs (d ∷ []) 0 k (omega arith) in
              let b : get_or (docs ++ d ∷ []) (k + 1) 0 ≡ d = get_or_push docs d 0 (k + 1) (sym at) in
              omega (arith, a, b, after.last k at, falls, h.rising k (omega (arith, length_push docs d, at)))
          | inr none ↦ omega (arith, falls, after.none (omega (arith, none)))
        ]

-- ---- the first so many

-- of the first places, and one more
pub take-more : (xs : List ℕ) (i x : ℕ) → i < length xs → x ≡ get_or xs i 0 → take (i + 1) xs ≡ take i xs ++ x ∷ []
take-more xs i x within is =
    let one_on : i + 1 ≡ suc i = omega arith in
    ap (λ k. take k xs) one_on ∙ take-suc xs i 0 within ∙ ap (λ y. take i xs ++ y ∷ []) (sym is)

-- The first postings are good, up to a place.
pub record IsGoodUpTo (format : FormatNumbers) (n : ℕ) (docs freqs : List ℕ) (i least total : ℕ) : Type 0 where
  pub good : AreGood format n (take i docs) (take i freqs)
  pub least_is : IsLeastAfter (take i docs) least
  pub total_is : total ≡ sum (take i freqs)

pub up-to-more : (format : FormatNumbers) (n : ℕ) (docs freqs : List ℕ) (i least total d f next sum_next : ℕ) → IsGoodUpTo format n docs freqs i least total → i < length docs → length docs ≡ length freqs
    → d ≡ get_or docs i 0 → f ≡ get_or freqs i 0 → least ≤ d → d < n → 1 ≤ f → f < 2 ^ 32 → total + f ≤ format.most_sum → next ≡ d + 1 → sum_next ≡ total + f
    → IsGoodUpTo format n docs freqs (i + 1) next sum_next
up-to-more format n docs freqs i least total d f next sum_next h within same doc freq rises below some small fits next_is sum_is =
    let ds : take i docs ++ d ∷ [] ≡ take (i + 1) docs = sym (take-more docs i d within doc) in
    let fs : take i freqs ++ f ∷ [] ≡ take (i + 1) freqs = sym (take-more freqs i f (omega (arith, within, same)) freq) in
    record {
      good = subst (λ l. AreGood format n l (take (i + 1) freqs)) ds (subst (AreGood format n (take i docs ++ d ∷ [])) fs
          (good-more format n (take i docs) (take i freqs) d f least total h.good h.least_is h.total_is rises below some small fits));
      least_is = subst (λ k. IsLeastAfter (take (i + 1) docs) k) (sym next_is) (subst (λ l. IsLeastAfter l (d + 1)) ds (least-more (take i docs) d));
      total_is = let more : sum (take i freqs ++ f ∷ []) ≡ sum (take i freqs) + f = sum_by_push (λ x. x) (take i freqs) f in
          omega (arith, sum_is, h.total_is, more, ap (λ l. sum l) fs);
    }

-- as many of each
same-length : (docs freqs : List ℕ) (i : ℕ) → i ≤ length docs → length docs ≡ length freqs → length (take i docs) ≡ length (take i freqs)
same-length docs freqs i within same = length-take-le i docs within ∙ sym (length-take-le i freqs (omega (arith, within, same)))

pub good-prefix : (format : FormatNumbers) (n : ℕ) (docs freqs : List ℕ) (i least total : ℕ) → IsGoodUpTo format n docs freqs i least total → i ≤ length docs → length docs ≡ length freqs
    → IsPostingList format n (take i (postings_of docs freqs))
good-prefix format n docs freqs i least total h within same =
    subst (IsPostingList format n) (sym (take-postings docs freqs i)) (good-list format n (take i docs) (take i freqs) (same-length docs freqs i within same) h.good)

pub bad-prefix : (format : FormatNumbers) (n : ℕ) (docs freqs : List ℕ) (i least total d f : ℕ) → IsGoodUpTo format n docs freqs i least total → i < length docs → length docs ≡ length freqs
    → d ≡ get_or docs i 0 → f ≡ get_or freqs i 0 → (d < least) ⊎ (n ≤ d) ⊎ (f ≡ 0) ⊎ (format.most_sum < total + f)
    → ¬ IsPostingList format n (take (i + 1) (postings_of docs freqs))
bad-prefix format n docs freqs i least total d f h within same doc freq why is =
    let ds : take (i + 1) docs ≡ take i docs ++ d ∷ [] = take-more docs i d within doc in
    let fs : take (i + 1) freqs ≡ take i freqs ++ f ∷ [] = take-more freqs i f (omega (arith, within, same)) freq in
    let good : AreGood format n (take (i + 1) docs) (take (i + 1) freqs) =
    list-good format n (take (i + 1) docs) (take (i + 1) freqs) (same-length docs freqs (i + 1) (omega arith) same) (subst (IsPostingList format n) (take-postings docs freqs (i + 1)) is) in
    bad-more format n (take i docs) (take i freqs) d f least total h.least_is h.total_is why (subst (λ l. AreGood format n l (take i freqs ++ f ∷ [])) ds (subst (AreGood format n (take (i + 1) docs)) fs good))

-- ---- lists that are one after the other

-- The first lists are good, and the others are these.
pub record AreGoodUpTo (format : FormatNumbers) (n : ℕ) (all rest : List (List Posting)) (t : ℕ) : Type 0 where
  pub first : List (List Posting)
  pub all_are : all ≡ first ++ rest
  pub count : length first ≡ t
  pub good : All (IsPostingList format n) first

pub lists-more : (format : FormatNumbers) (n : ℕ) (all rest more : List (List Posting)) (list : List Posting) (t next : ℕ) → AreGoodUpTo format n all rest t → rest ≡ list ∷ more → next ≡ t + 1
    → IsPostingList format n list → AreGoodUpTo format n all more next
lists-more format n all rest more list t next h is on good = record {
  first = h.first ++ list ∷ [];
  all_are = h.all_are ∙ ap (λ l. h.first ++ l) is ∙ sym (append_assoc h.first (list ∷ []) more);
  count = omega (arith, length_push h.first list, h.count, on);
  good = All-push (IsPostingList format n) h.first list h.good good;
}

-- the first bad posting is in the next list
pub first-bad : (format : FormatNumbers) (n : ℕ) (all rest more : List (List Posting)) (list : List Posting) (t place : ℕ) → AreGoodUpTo format n all rest t → rest ≡ list ∷ more → place < length list
    → IsPostingList format n (take place list) → ¬ IsPostingList format n (take (place + 1) list) → IsFirstBad format n all t place
first-bad format n all rest more list t place h is within good bad =
    let whole : all ≡ h.first ++ list ∷ more = h.all_are ∙ ap (λ l. h.first ++ l) is in
    let at : get_or all t [] ≡ list = ap (λ l. get_or l t []) whole ∙ ap (λ k. get_or (h.first ++ list ∷ more) k []) (sym h.count) ∙ get_or_behind h.first (list ∷ more) in
    record {
      term_within = omega (arith, ap length whole, length-append h.first (list ∷ more), h.count);
      before = subst (All (IsPostingList format n)) (sym (ap (take t) whole ∙ take_at h.first (list ∷ more) t h.count)) h.good;
      place_within = subst (λ l. place < length l) (sym at) within;
      good = subst (λ l. IsPostingList format n (take place l)) (sym at) good;
      bad = λ p. bad (subst (λ l. IsPostingList format n (take (place + 1) l)) at p);
    }
  where
    get_or_behind : (xs ys : List (List Posting)) → get_or (xs ++ ys) (length xs) [] ≡ get_or ys 0 []
    get_or_behind [] ys = refl
    get_or_behind (x ∷ xs) ys = get_or_behind xs ys

-- as many postings as documents
pub postings-length : (docs freqs : List ℕ) → length docs ≡ length freqs → length (postings_of docs freqs) ≡ length docs
postings-length docs freqs same = sym (docs_of-length (postings_of docs freqs)) ∙ ap length (docs-of_postings docs freqs same)

-- ---- the next of lists that stand one after the other

-- it has so many documents
part-length : (xs ys : List ℕ) (from m : ℕ) → from + m ≤ length xs → ys ≡ take m (drop from xs) → length ys ≡ m
part-length xs ys from m within is = ap length is ∙ length-take-le m (drop from xs) (omega (arith, within, length-drop from xs))

-- and so many postings
next-long : (docs freqs ds fs : List ℕ) (from m : ℕ) → from + m ≤ length docs → length docs ≡ length freqs → ds ≡ take m (drop from docs) → fs ≡ take m (drop from freqs) → (length ds ≡ m) × (length (postings_of ds fs) ≡ m)
next-long docs freqs ds fs from m inside same docs_are freqs_are =
    let of_docs : length ds ≡ m = part-length docs ds from m inside docs_are in
    let of_freqs : length fs ≡ m = part-length freqs fs from m (omega (arith, inside, same)) freqs_are in
    (of_docs, postings-length ds fs (of_docs ∙ sym of_freqs) ∙ of_docs)

pub next-bad : (format : FormatNumbers) (n : ℕ) (lengths docs freqs ds fs : List ℕ) (t from m place : ℕ)
    → AreGoodUpTo format n (lists_given lengths docs freqs) (lists_given (drop t lengths) (drop from docs) (drop from freqs)) t
    → t < length lengths → m ≡ get_or lengths t 0 → from + m ≤ length docs → length docs ≡ length freqs → ds ≡ take m (drop from docs) → fs ≡ take m (drop from freqs)
    → place < m → IsPostingList format n (take place (postings_of ds fs)) → (place < length ds → ¬ IsPostingList format n (take (place + 1) (postings_of ds fs)))
    → IsFirstBad format n (lists_given lengths docs freqs) t place
next-bad format n lengths docs freqs ds fs t from m place h within is inside same docs_are freqs_are less good bad =
    let long = next-long docs freqs ds fs from m inside same docs_are freqs_are in
    first-bad format n (lists_given lengths docs freqs) (lists_given (drop t lengths) (drop from docs) (drop from freqs))
    (lists_given (drop (t + 1) lengths) (drop (from + m) docs) (drop (from + m) freqs)) (postings_of ds fs) t place h
    (next-list lengths docs freqs ds fs t from m within is docs_are freqs_are) (omega (arith, less, long.1)) good (bad (omega (arith, less, long.0)))

pub next-good : (format : FormatNumbers) (n : ℕ) (lengths docs freqs ds fs : List ℕ) (t from m place : ℕ)
    → AreGoodUpTo format n (lists_given lengths docs freqs) (lists_given (drop t lengths) (drop from docs) (drop from freqs)) t
    → t < length lengths → m ≡ get_or lengths t 0 → from + m ≤ length docs → length docs ≡ length freqs → ds ≡ take m (drop from docs) → fs ≡ take m (drop from freqs)
    → m ≤ place → IsPostingList format n (take place (postings_of ds fs))
    → AreGoodUpTo format n (lists_given lengths docs freqs) (lists_given (drop (t + 1) lengths) (drop (from + m) docs) (drop (from + m) freqs)) (t + 1)
next-good format n lengths docs freqs ds fs t from m place h within is inside same docs_are freqs_are more good =
    lists-more format n (lists_given lengths docs freqs) (lists_given (drop t lengths) (drop from docs) (drop from freqs))
    (lists_given (drop (t + 1) lengths) (drop (from + m) docs) (drop (from + m) freqs)) (postings_of ds fs) t (t + 1) h
    (next-list lengths docs freqs ds fs t from m within is docs_are freqs_are) refl
    (subst (IsPostingList format n) (take_all place (postings_of ds fs) (omega (arith, (next-long docs freqs ds fs from m inside same docs_are freqs_are).1, more))) good)
