-- The top lists of collections are joined to that of the collection to which these are joined.
use Rattle.std.proofs.Common.{◌≡◌, refl, sym, ap, ◌∙◌, subst, inl, inr, ◌⊎◌, ℕ, zero, suc, ◌+◌, ◌*◌}
use Rattle.std.proofs.Common.{◌<◌, ◌≤◌, Bool, true, false, cond, min, List, [], ◌∷◌, ◌++◌, length}
use Rattle.std.proofs.Common.{map, drop, append_assoc, arith}
use Rattle.std.specs.Prelude.{Contains, AllPairs, Option, Some, find, option_map, unwrap_or}
use Rattle.std.specs.Prelude.{flat_map, zip, ◌==◌, ◌||◌}
use Rattle.std.specs.List.{All, filter, list_any, range_with_len}
use Rattle.std.proofs.Math.Seq.{take-append_seam, drop-append-le}
use Rattle.std.proofs.lemmas.Bool.{cases_lt, eqb-true, eq-eqb, ne_eqb}
use Rattle.std.proofs.lemmas.List.{drop_all, get_or_past, length-append, length-map, map-append}
use Rattle.std.proofs.lemmas.List.Elements.{All-append, All-cons, All-contains, All-filter}
use Rattle.std.proofs.lemmas.List.Elements.{All-get_or, All-head, All-nil, All-tail, All-weaker}
use Rattle.std.proofs.lemmas.List.Elements.{Contains-append_cases, Contains-append_left}
use Rattle.std.proofs.lemmas.List.Elements.{Contains-append_right, filter-append}
use Rattle.std.proofs.lemmas.List.Folds.{list_any-append}
use Rattle.std.proofs.lemmas.List.FromFn.{length-range_with_len, get_or-range_with_len}
use Rattle.std.proofs.lemmas.List.Kept.{AllPairs-cons}
use Rattle.std.proofs.lemmas.List.Sums.{sum_by-cons}
use Rattle.collection_model.specs.Collection.{Posting, Collection, docs_of, list_of}
use Rattle.collection_model.proofs.Marks.{same-test}
use Rattle.scan_plans.specs.Matches.{freq_of_doc, has_doc, in_any, score}
use Rattle.scan_plans.specs.IsTop.{Before, IsTop, IsTopOf}
use Rattle.scan_plans.specs.Ranking.{IsFirstK}
use Rattle.segments.specs.Joined.{shifted, joined, joined_list, parts_behind, documents_in}
use Rattle.segments.specs.Laws.{IsInRange, ListsAreJoined, WideIsJoined}
use Rattle.pefidx_c.specs.Asked.{lists_of}
use Rattle.pefidx_c.specs.JoinedTop.{IsTopOfWhole, joined_pairs}
use Rattle.pefidx_c.proofs.Firsts.{Pair, mapped}
use Rattle.pefidx_c.proofs.PairOrder.{before-apart, before-cases, before-chain, before-irreflexive}
use Rattle.pefidx_c.proofs.PairOrder.{before-one_way, contained-all, contained-map, few}
use Rattle.pefidx_c.proofs.PairOrder.{contains-dec, none, pairs-head, pairs-tail, same-pair}
use Rattle.pefidx_c.proofs.PairOrder.{shifted-before}

-- a collection with what it gave
abbrev pub Range : Type 0
Range = Collection × List Pair

-- ---- documents of lists that are shifted and stand one after the other
same-shifted : (n a b : ℕ) → (n + a == n + b) ≡ (a == b)
same-shifted n a b =
    same-test (n + a == n + b) (a == b)
    (λ h. eq-eqb a b (let e = eqb-true (n + a) (n + b) h in omega (arith, e)))
    (λ h. eq-eqb (n + a) (n + b) (ap (λ x. n + x) (eqb-true a b h)))

or-none : (b : Bool) → (b || false) ≡ b
or-none true = refl
or-none false = refl

has-shifted : (n d : ℕ) (list : List Posting) → has_doc (n + d) (shifted n list) ≡ has_doc d list
has-shifted n d [] = refl
has-shifted n d (p ∷ list) = (λ i. same-shifted n p.doc d i || has-shifted n d list i)

-- the frequency of the posting that was found
abbrev freq-found : Option Posting → ℕ
freq-found o = unwrap_or (option_map (λ p. p.freq) o) 0

found-step : (b : Bool) (p q : Posting) (o u : Option Posting) → p.freq ≡ q.freq
    → freq-found o ≡ freq-found u → freq-found (cond b (Some p) o) ≡ freq-found (cond b (Some q) u)
found-step true p q o u same rest = same
found-step false p q o u same rest = rest

freq-shifted : (n d : ℕ) (list : List Posting) → freq_of_doc (n + d)
    (shifted n list) ≡ freq_of_doc d list
freq-shifted n d [] = refl
freq-shifted n d (p ∷ list) =
    let q : Posting = record { doc = n + p.doc; freq = p.freq } in
    ap (λ b. freq-found (cond b (Some q) (find (λ r. r.doc == n + d) (shifted n list))))
    (same-shifted n p.doc d)
    ∙ found-step (p.doc == d) q p (find (λ r. r.doc == n + d) (shifted n list))
    (find (λ r. r.doc == d) list) refl (freq-shifted n d list)

skipped : (b h : Bool) (p : Posting) (o : Option Posting) → (b || h) ≡ false → (h ≡ false)
    × (freq-found (cond b (Some p) o) ≡ freq-found o)
skipped true h p o none = cc
skipped false h p o none = (none, refl)

no-freq : (d : ℕ) (list : List Posting) → has_doc d list ≡ false → freq_of_doc d list ≡ 0
no-freq d [] none = refl
no-freq d (p ∷ list) none =
    let r = skipped (p.doc == d) (has_doc d list) p (find (λ q. q.doc == d) list) none in
    r.1 ∙ no-freq d list r.0

-- a document that the first list has not, or the second
absent-first : (d : ℕ) (xs ys : List Posting) → has_doc d xs ≡ false
    → freq_of_doc d (xs ++ ys) ≡ freq_of_doc d ys
absent-first d [] ys none = refl
absent-first d (p ∷ xs) ys none =
    let r = skipped (p.doc == d) (has_doc d xs) p (find (λ q. q.doc == d) (xs ++ ys)) none in
    r.1 ∙ absent-first d xs ys r.0

absent-later : (d : ℕ) (xs ys : List Posting) → has_doc d ys ≡ false
    → freq_of_doc d (xs ++ ys) ≡ freq_of_doc d xs
absent-later d [] ys none = no-freq d ys none
absent-later d (p ∷ xs) ys none = found-step (p.doc == d) p p (find (λ q. q.doc == d) (xs ++ ys))
    (find (λ q. q.doc == d) xs) refl (absent-later d xs ys none)

none-below : (n d : ℕ) (list : List Posting) → n ≤ d → All (λ e. e < n) (docs_of list)
    → has_doc d list ≡ false
none-below n d [] le all = refl
none-below n d (p ∷ list) le all =
    let here : p.doc < n = All-head (λ e. e < n) p.doc (docs_of list) all in
    (λ i. ne_eqb p.doc d (λ e. absurd (omega (arith, here, le, e))) i || none-below n d list le
    (All-tail (λ e. e < n) p.doc (docs_of list) all) i)

none-above : (n d : ℕ) (list : List Posting) → d < n → All (λ e. n ≤ e) (docs_of list)
    → has_doc d list ≡ false
none-above n d [] lt all = refl
none-above n d (p ∷ list) lt all =
    let here : n ≤ p.doc = All-head (λ e. n ≤ e) p.doc (docs_of list) all in
    (λ i. ne_eqb p.doc d (λ e. absurd (omega (arith, here, lt, e))) i || none-above n d list lt
    (All-tail (λ e. n ≤ e) p.doc (docs_of list) all) i)

shifted-above : (n : ℕ) (list : List Posting) → All (λ e. n ≤ e) (docs_of (shifted n list))
shifted-above n [] = All-nil (λ e. n ≤ e)
shifted-above n (p ∷ list) = All-cons (λ e. n ≤ e) (n + p.doc) (docs_of (shifted n list))
    (omega arith) (shifted-above n list)

shifted-below : (n m : ℕ) (list : List Posting) → All (λ e. e < m) (docs_of list)
    → All (λ e. e < n + m) (docs_of (shifted n list))
shifted-below n m [] all = All-nil (λ e. e < n + m)
shifted-below n m (p ∷ list) all =
    let here : p.doc < m = All-head (λ e. e < m) p.doc (docs_of list) all in
    All-cons (λ e. e < n + m) (n + p.doc) (docs_of (shifted n list)) (omega (arith, here))
    (shifted-below n m list (All-tail (λ e. e < m) p.doc (docs_of list) all))

docs-above : (n : ℕ) (cs : List Collection) (t : ℕ) → All (λ e. n ≤ e)
    (docs_of (joined_list (parts_behind n cs t)))
docs-above n [] t = All-nil (λ e. n ≤ e)
docs-above n (c ∷ cs) t =
    let mine : List Posting = shifted n (list_of c t) in
    let later : List Posting = joined_list (parts_behind (n + c.documents) cs t) in
    let others : All (λ e. n ≤ e) (docs_of later) = All-weaker (λ e. n + c.documents ≤ e)
    (λ e. n ≤ e) (λ e le. omega (arith, le)) (docs_of later)
    (docs-above (n + c.documents) cs t) in
    subst (All (λ e. n ≤ e)) (sym (map-append (λ p. p.doc) mine later))
    (All-append (λ e. n ≤ e) (docs_of mine) (docs_of later)
    (shifted-above n (list_of c t)) others)

list-below : (c : Collection) (t : ℕ) → IsInRange c → All (λ d. d < c.documents)
    (docs_of (list_of c t))
list-below c t good = elim (cases_lt t (length c.lists)) as (λ _. All (λ d. d < c.documents)
    (docs_of (list_of c t))) [
      | inl within ↦ All-get_or (λ list. All (λ d. d < c.documents) (docs_of list)) c.lists t []
          within good
      | inr past ↦ subst (λ (list : List Posting). All (λ d. d < c.documents) (docs_of list))
          (sym (get_or_past c.lists t [] past)) (All-nil (λ d. d < c.documents))
    ]

-- ---- collections in the whole
-- The documents of a collection behind so many others are in the whole as they are in it.
record IsThere (whole : ℕ → List Posting) (n : ℕ) (c : Collection) : Type 0 where
  pub has : (t d : ℕ) → d < c.documents → has_doc (n + d) (whole t) ≡ has_doc d (list_of c t)
  pub freq : (t d : ℕ) → d < c.documents → freq_of_doc (n + d) (whole t) ≡ freq_of_doc d
      (list_of c t)

abbrev AllThere : (ℕ → List Posting) → ℕ → List Range → Type 0
AllThere whole n [] = Unit {0}
AllThere whole n (r ∷ ranges) = IsThere whole n r.0 × AllThere whole (n + r.0.documents) ranges

is-there : (whole before : ℕ → List Posting) (n : ℕ) (c : Collection) (cs : List Collection)
    → ((t : ℕ) → All (λ e. e < n) (docs_of (before t)))
    → ((t : ℕ) → whole t ≡ before t ++ joined_list (parts_behind n (c ∷ cs) t)) → IsThere whole n c
is-there whole before n c cs below is =
    let mine : ℕ → List Posting = λ t. shifted n (list_of c t) in
    let later : ℕ → List Posting = λ t. joined_list (parts_behind (n + c.documents) cs t) in
    let none-before : (t d : ℕ) → has_doc (n + d) (before t) ≡ false = λ t d. none-below n (n + d)
    (before t) (omega arith) (below t) in
    let none-later : (t d : ℕ) → d < c.documents → has_doc (n + d)
    (later t) ≡ false = λ t d lt. none-above (n + c.documents) (n + d) (later t)
    (omega (arith, lt)) (docs-above (n + c.documents) cs t) in
    record {
      has = λ t d lt.
          ap (has_doc (n + d)) (is t)
          ∙ list_any-append (λ p. p.doc == n + d) (before t) (mine t ++ later t)
          ∙ ap (λ b. b || has_doc (n + d) (mine t ++ later t)) (none-before t d)
          ∙ list_any-append (λ p. p.doc == n + d) (mine t) (later t)
          ∙ ap (λ b. has_doc (n + d) (mine t) || b) (none-later t d lt)
          ∙ or-none (has_doc (n + d) (mine t))
          ∙ has-shifted n d (list_of c t);
      freq = λ t d lt.
          ap (freq_of_doc (n + d)) (is t) ∙ absent-first (n + d) (before t) (mine t ++ later t)
          (none-before t d)
          ∙ absent-later (n + d) (mine t) (later t) (none-later t d lt) ∙ freq-shifted n d
          (list_of c t);
    }

all-there : (whole before : ℕ → List Posting) (n : ℕ) (ranges : List Range)
    → All (λ r. IsInRange r.0) ranges → ((t : ℕ) → All (λ e. e < n) (docs_of (before t)))
    → ((t : ℕ) → whole t ≡ before t ++ joined_list (parts_behind n (map (λ r. r.0) ranges) t))
    → AllThere whole n ranges
all-there whole before n [] good below is = tt
all-there whole before n (r ∷ ranges) good below is =
    let c : Collection = r.0 in
    let cs : List Collection = map (λ r. r.0) ranges in
    let mine : ℕ → List Posting = λ t. shifted n (list_of c t) in
    let later : ℕ → List Posting = λ t. joined_list (parts_behind (n + c.documents) cs t) in
    let low : (t : ℕ) → All (λ e. e < n + c.documents) (docs_of (before t)) = λ t. All-weaker
    (λ e. e < n) (λ e. e < n + c.documents) (λ e lt. omega (arith, lt)) (docs_of (before t))
    (below t) in
    let mine-low : (t : ℕ) → All (λ e. e < n + c.documents) (docs_of (mine t)) = λ t. shifted-below
    n c.documents (list_of c t)
    (list-below c t (All-head (λ r. IsInRange r.0) r ranges good)) in (
      is-there whole before n c cs below is,
      all-there whole (λ t. before t ++ mine t) (n + c.documents) ranges
          (All-tail (λ r. IsInRange r.0) r ranges good)
          (λ t. subst (All (λ e. e < n + c.documents))
          (sym (map-append (λ p. p.doc) (before t) (mine t)))
          (All-append (λ e. e < n + c.documents) (docs_of (before t)) (docs_of (mine t))
          (low t) (mine-low t)))
          (λ t. is t ∙ sym (append_assoc (before t) (mine t) (later t))),
    )

-- terms that have two documents alike give them one score
any-alike : (f g : ℕ → List Posting) (d e : ℕ) (terms : List ℕ)
    → ((t : ℕ) → has_doc d (f t) ≡ has_doc e (g t)) → list_any (has_doc d) (map f terms) ≡ list_any
    (has_doc e) (map g terms)
any-alike f g d e [] same = refl
any-alike f g d e (t ∷ terms) same = (λ i. same t i || any-alike f g d e terms same i)

score-alike : (f g : ℕ → List Posting) (d e : ℕ) (terms weights : List ℕ)
    → ((t : ℕ) → freq_of_doc d (f t) ≡ freq_of_doc e (g t)) → score (map f terms) weights d ≡ score
    (map g terms) weights e
score-alike f g d e [] weights same = refl
score-alike f g d e (t ∷ terms) [] same = refl
score-alike f g d e (t ∷ terms) (w ∷ weights) same =
    sum_by-cons (λ (x : List Posting × ℕ). x.1 * freq_of_doc d x.0) (f t, w)
    (zip (map f terms) weights)
    ∙ (λ i. w * same t i + score-alike f g d e terms weights same i)
    ∙ sym (sum_by-cons (λ (x : List Posting × ℕ). x.1 * freq_of_doc e x.0) (g t, w)
    (zip (map g terms) weights))

-- ---- the documents that are in any list
range-append : (a m k : ℕ) → range_with_len a (m + k) ≡ range_with_len a m ++ range_with_len
    (a + m) k
range-append a zero k =
    let none : zero + k ≡ k = omega arith in
    let e : a ≡ a + 0 = omega arith in
    ap (range_with_len a) none ∙ ap (λ b. range_with_len b k) e
range-append a (suc m) k =
    let e : a + 1 + m ≡ a + suc m = omega arith in
    let next : suc m + k ≡ suc (m + k) = omega arith in
    ap (range_with_len a) next ∙ ap (λ l. a ∷ l)
    (range-append (a + 1) m k ∙ ap (λ b. range_with_len (a + 1) m ++ range_with_len b k) e)

cond-map : (n a : ℕ) (b : Bool) (xs : List ℕ) → cond b ((n + a) ∷ map (λ d. n + d) xs)
    (map (λ d. n + d) xs) ≡ map (λ d. n + d) (cond b (a ∷ xs) xs)
cond-map n a true xs = refl
cond-map n a false xs = refl

filter-shifted : (p q : ℕ → Bool) (n a m : ℕ) → ((d : ℕ) → a ≤ d → d < a + m → p (n + d) ≡ q d)
    → filter p (range_with_len (n + a) m) ≡ map (λ d. n + d) (filter q (range_with_len a m))
filter-shifted p q n a zero same = refl
filter-shifted p q n a (suc m) same =
    let e : n + a + 1 ≡ n + (a + 1) = omega arith in
    let rest : List ℕ = filter p (range_with_len (n + a + 1) m) in
    let later : List ℕ = filter q (range_with_len (a + 1) m) in
    let more : rest ≡ map (λ d. n + d) later = ap (λ b. filter p (range_with_len b m)) e
    ∙ filter-shifted p q n (a + 1) m
    (λ d from lt. same d (omega (arith, from)) (omega (arith, lt))) in
    ap (λ b. cond b ((n + a) ∷ rest) rest) (same a (omega arith) (omega arith))
    ∙ ap (λ l. cond (q a) ((n + a) ∷ l) l) more
    ∙ cond-map n a (q a) later

-- a number that a filter keeps is below the end
filter-below : (p : ℕ → Bool) (n : ℕ) → All (λ d. d < n) (filter p (range_with_len 0 n))
filter-below p n = All-filter p (λ d. d < n) (range_with_len 0 n)
    (λ k d within. omega (
      arith,
      within,
      length-range_with_len 0 n,
      get_or-range_with_len 0 n k d
          (omega (arith, within, length-range_with_len 0 n)),
    ))

module _ (k : ℕ) (terms weights : List ℕ) (whole : ℕ → List Posting) where
  -- the documents of ranges that are in any list, and what they gave, as the whole has them
  abbrev docs-behind : ℕ → List Range → List ℕ
  docs-behind n [] = []
  docs-behind n (r ∷ ranges) = map (λ d. n + d)
      (in_any r.0.documents (lists_of r.0 terms)) ++ docs-behind (n + r.0.documents) ranges

  abbrev pairs-behind : ℕ → List Range → List Pair
  pairs-behind n [] = []
  pairs-behind n (r ∷ ranges) = map (λ e. (n + e.0, e.1)) r.1 ++ pairs-behind
      (n + r.0.documents) ranges

  docs-are : (n : ℕ) (ranges : List Range) → AllThere whole n ranges
      → filter (λ d. list_any (has_doc d) (map whole terms))
      (range_with_len n (documents_in (map (λ r. r.0) ranges))) ≡ docs-behind n ranges
  docs-are n [] there = refl
  docs-are n (r ∷ ranges) there =
      let c : Collection = r.0 in
      let cs : List Collection = map (λ r. r.0) ranges in
      let p : ℕ → Bool = λ d. list_any (has_doc d) (map whole terms) in
      let q : ℕ → Bool = λ d. list_any (has_doc d) (lists_of c terms) in
      let e : n ≡ n + 0 = omega arith in
      let mine : filter p (range_with_len n c.documents) ≡ map (λ d. n + d)
      (in_any c.documents (lists_of c terms)) =
      ap (λ b. filter p (range_with_len b c.documents)) e
      ∙ filter-shifted p q n 0 c.documents
      (λ d from lt. any-alike whole (list_of c) (n + d) d terms
      (λ t. there.0.has t d (omega (arith, lt)))) in
      ap (λ m. filter p (range_with_len n m)) (sum_by-cons (λ (d : Collection). d.documents) c cs)
      ∙ ap (filter p) (range-append n c.documents (documents_in cs))
      ∙ filter-append p (range_with_len n c.documents)
      (range_with_len (n + c.documents) (documents_in cs))
      ∙ (λ i. mine i ++ docs-are (n + c.documents) ranges there.1 i)

  pairs-are : (n : ℕ) (ranges : List Range) → joined_pairs n (map (λ r. r.0.documents) ranges)
      (map (λ r. length r.1) ranges) (flat_map (λ r. r.1) ranges) ≡ pairs-behind n ranges
  pairs-are n [] = refl
  pairs-are n (r ∷ ranges) =
      let rest : List Pair = flat_map (λ r. r.1) ranges in
      let later : drop (length r.1) (r.1 ++ rest) ≡ rest = drop-append-le (length r.1) r.1 rest
      (omega arith) ∙ ap (λ l. l ++ rest) (drop_all (length r.1) r.1 (omega arith)) in
      (λ i. map (λ e. (n + e.0, e.1)) (take-append_seam r.1 rest i)
      ++ (ap (joined_pairs (n + r.0.documents) (map (λ r. r.0.documents) ranges)
      (map (λ r. length r.1) ranges)) later ∙ pairs-are (n + r.0.documents) ranges) i)

  -- what ranges gave are documents of the whole with their scores
  abbrev IsTopIn : Range → Type 0
  IsTopIn r = IsTop r.0.documents (lists_of r.0 terms) weights k r.1

  among : (n : ℕ) (ranges : List Range) → AllThere whole n ranges → All IsTopIn ranges → (x : Pair)
      → Contains (pairs-behind n ranges) x
      → Contains (docs-behind n ranges) x.0 × (x.1 ≡ score (map whole terms) weights x.0)
  among n [] there tops x c = absurd (none x c)
  among n (r ∷ ranges) there tops x c =
      let shift : Pair → Pair = λ e. (n + e.0, e.1) in
      let docs : List ℕ = in_any r.0.documents (lists_of r.0 terms) in
      let top = All-head IsTopIn r ranges tops in
      elim (Contains-append_cases (map shift r.1) (pairs-behind (n + r.0.documents) ranges) x
      c) as (λ _. Contains (docs-behind n (r ∷ ranges)) x.0
      × (x.1 ≡ score (map whole terms) weights x.0)) [
        | inl here ↦
            let f = mapped shift r.1 x here in
            let e : Pair = f.0 in
            let found : Contains docs e.0 = All-contains (λ (e : Pair). Contains docs e.0) r.1 e
            top.found f.1 in
            let lt : e.0 < r.0.documents = All-contains (λ d. d < r.0.documents) docs e.0
            (filter-below (λ d. list_any (has_doc d) (lists_of r.0 terms)) r.0.documents) found
            in
            let scored : e.1 ≡ score (lists_of r.0 terms) weights e.0 = All-contains
            (λ (e : Pair). e.1 ≡ score (lists_of r.0 terms) weights e.0) r.1 e top.scored f.1 in
            let doc : n + e.0 ≡ x.0 = ap (λ (z : Pair). z.0) f.2 in
            let alike = score-alike whole (list_of r.0) (n + e.0) e.0 terms weights
            (λ t. there.0.freq t e.0 lt) in (
              subst (Contains (docs-behind n (r ∷ ranges))) doc
                  (Contains-append_left (map (λ d. n + d) docs)
                  (docs-behind (n + r.0.documents) ranges) (n + e.0)
                  (contained-map (λ d. n + d) docs e.0 found)),
              sym (ap (λ (z : Pair). z.1) f.2) ∙ scored ∙ sym alike
                  ∙ ap (score (map whole terms) weights) doc,
            )
        | inr later ↦
            let m = among (n + r.0.documents) ranges there.1 (All-tail IsTopIn r ranges tops) x
            later in (
              Contains-append_right (map (λ d. n + d) docs) (docs-behind (n + r.0.documents) ranges)
                  x.0 m.0,
              m.1,
            )
      ]

  counts : (n : ℕ) (ranges : List Range) → All IsTopIn ranges
      → min k (length (pairs-behind n ranges)) ≡ min k (length (docs-behind n ranges))
  counts n [] tops = refl
  counts n (r ∷ ranges) tops =
      let shift : Pair → Pair = λ e. (n + e.0, e.1) in
      let docs : List ℕ = in_any r.0.documents (lists_of r.0 terms) in
      let top = All-head IsTopIn r ranges tops in
      omega (
        arith,
        top.count,
        counts (n + r.0.documents) ranges (All-tail IsTopIn r ranges tops),
        length-append (map shift r.1) (pairs-behind (n + r.0.documents) ranges),
        length-map r.1 shift,
        length-append (map (λ d. n + d) docs) (docs-behind (n + r.0.documents) ranges),
        length-map docs (λ d. n + d),
      )

  -- k of some pairs stand before another
  record IsPassed (pairs : List Pair) (x : Pair) : Type 0 where
    pub some : List Pair
    pub count : length some ≡ k
    pub ordered : AllPairs Before some
    pub among : All (Contains pairs) some
    pub before : All (λ h. Before h x) some

  -- a range that did not give a document gave k before it
  full : (n : ℕ) (lists : List (List Posting)) (top : List Pair) (d : ℕ)
      → IsTop n lists weights k top → Contains (in_any n lists) d → ¬ Contains top
      (d, score lists weights d)
      → All (λ h. Before h (d, score lists weights d)) top × (length top ≡ k)
  full n lists top d is c absent =
      let docs : List ℕ = in_any n lists in
      let x : Pair = (d, score lists weights d) in
      let scored : ℕ → Pair = λ d. (d, score lists weights d) in
      let one : (e : Pair) → Contains top e → scored e.0 ≡ e = λ e inside. same-pair
      (scored e.0) e refl
      (sym (All-contains (λ (e : Pair). e.1 ≡ score lists weights e.0) top e is.scored inside))
      in
      let other : ¬ Contains (map (λ (e : Pair). e.0) top) d = λ inside. let f = mapped
      (λ (e : Pair). e.0) top d inside in absent
      (subst (Contains top) (sym (one f.0 f.1) ∙ ap scored f.2) f.1) in
      let before : All (λ h. Before h x) top = is.others_after d c other in
      let differ : All (λ (y : Pair). ¬ (x ≡ y)) top = contained-all (λ (y : Pair). ¬ (x ≡ y)) top
      (λ y inside same. absent (subst (Contains top) (sym same) inside)) in
      let all : All (Contains (map scored docs)) (x ∷ top) = All-cons
      (Contains (map scored docs)) x top (contained-map scored docs d c)
      (contained-all (Contains (map scored docs)) top
      (λ e inside. subst (Contains (map scored docs)) (one e inside)
      (contained-map scored docs e.0
      (All-contains (λ (e : Pair). Contains docs e.0) top e is.found inside)))) in
      let fits = few (x ∷ top) (map scored docs)
      (AllPairs-cons (λ (x y : Pair). ¬ (x ≡ y)) x top differ (before-apart top is.ordered))
      all in
      (before, omega (arith, fits, length-map docs scored, is.count))

  shifted-ordered : (n : ℕ) (xs : List Pair) → AllPairs Before xs → AllPairs Before
      (map (λ e. (n + e.0, e.1)) xs)
  shifted-ordered n [] ordered = λ i j d lt within. absurd (omega (arith, within))
  shifted-ordered n (x ∷ xs) ordered =
      AllPairs-cons Before (n + x.0, x.1) (map (λ e. (n + e.0, e.1)) xs)
      (contained-all (Before (n + x.0, x.1)) (map (λ e. (n + e.0, e.1)) xs)
      (λ y c. let f = mapped (λ (e : Pair). (n + e.0, e.1)) xs y c in
      subst (Before (n + x.0, x.1)) f.2
      (shifted-before n x f.0 (All-contains (Before x) xs f.0 (pairs-head x xs ordered) f.1))))
      (shifted-ordered n xs (pairs-tail x xs ordered))

  passed : (n : ℕ) (ranges : List Range) → AllThere whole n ranges → All IsTopIn ranges → (d : ℕ)
      → Contains (docs-behind n ranges) d
      → Contains (pairs-behind n ranges) (d, score (map whole terms) weights d)
      ⊎ IsPassed (pairs-behind n ranges) (d, score (map whole terms) weights d)
  passed n [] there tops d c = absurd (none d c)
  passed n (r ∷ ranges) there tops d c =
      let shift : Pair → Pair = λ e. (n + e.0, e.1) in
      let lists : List (List Posting) = lists_of r.0 terms in
      let docs : List ℕ = in_any r.0.documents lists in
      let later : List Pair = pairs-behind (n + r.0.documents) ranges in
      let all : List Pair = map shift r.1 ++ later in
      let x : Pair = (d, score (map whole terms) weights d) in
      elim (Contains-append_cases (map (λ d. n + d) docs) (docs-behind (n + r.0.documents) ranges)
      d c) as (λ _. Contains all x ⊎ IsPassed all x) [
        | inl here ↦
            let f = mapped (λ d. n + d) docs d here in
            let e : ℕ = f.0 in
            let lt : e < r.0.documents = All-contains (λ d. d < r.0.documents) docs e
            (filter-below (λ d. list_any (has_doc d) lists) r.0.documents) f.1 in
            let scored : score lists weights e ≡ score (map whole terms) weights d = sym
            (score-alike whole (list_of r.0) (n + e) e terms weights
            (λ t. there.0.freq t e lt)) ∙ ap (score (map whole terms) weights) f.2 in
            let is : shift (e, score lists weights e) ≡ x = same-pair
            (shift (e, score lists weights e)) x f.2 scored in
            elim (contains-dec r.1 (e, score lists weights e)) as (λ _. Contains all x
            ⊎ IsPassed all x) [
              | inl given ↦ inl
                  (subst (Contains all) is
                  (Contains-append_left (map shift r.1) later (shift (e, score lists weights e))
                  (contained-map shift r.1 (e, score lists weights e) given)))
              | inr absent ↦
                  let top = All-head IsTopIn r ranges tops in
                  let h = full r.0.documents lists r.1 e top f.1 absent in
                  inr (record {
                    some = map shift r.1;
                    count = length-map r.1 shift ∙ h.1;
                    ordered = shifted-ordered n r.1 top.ordered;
                    among = contained-all (Contains all) (map shift r.1)
                        (λ y inside. Contains-append_left (map shift r.1) later y inside);
                    before = contained-all (λ y. Before y x) (map shift r.1)
                        (λ y inside. let g = mapped shift r.1 y inside in
                        subst (λ (z : Pair). Before z x) g.2
                        (subst (Before (shift g.0)) is
                        (shifted-before n g.0 (e, score lists weights e)
                        (All-contains (λ y. Before y (e, score lists weights e)) r.1 g.0 h.0
                        g.1))));
                  })
            ]
        | inr behind ↦ elim (passed (n + r.0.documents) ranges there.1
            (All-tail IsTopIn r ranges tops) d behind) as (λ _. Contains all x ⊎ IsPassed all x) [
              | inl given ↦ inl (Contains-append_right (map shift r.1) later x given)
              | inr p ↦ inr (record {
                some = p.some;
                count = p.count;
                ordered = p.ordered;
                among = All-weaker (Contains later) (Contains all)
                    (λ y inside. Contains-append_right (map shift r.1) later y inside) p.some
                    p.among;
                before = p.before;
              })
            ]
      ]

  -- where k given stand before a pair that is not held, all that are held do
  all-before : (pairs held : List Pair) (x : Pair) → IsFirstK k pairs held → ¬ Contains held x
      → IsPassed pairs x → All (λ h. Before h x) held
  all-before pairs held x first absent p = contained-all (λ h. Before h x) held
      (λ h c. elim (before-cases h x) as (λ _. Before h x) [
        | inl same ↦ absurd (absent (subst (Contains held) same c))
        | inr either ↦ elim either as (λ _. Before h x) [
          | inl before ↦ before
          | inr behind ↦
              let chain : (t : Pair) → Contains p.some t → Before t h = λ t inside.
              before-chain t x h
              (All-contains (λ t. Before t x) p.some t p.before inside) behind in
              let all : All (Contains held) (h ∷ p.some) = All-cons (Contains held) h p.some c
              (contained-all (Contains held) p.some
              (λ t inside. elim (contains-dec held t) as (λ _. Contains held t) [
                | inl yes-t ↦ yes-t
                | inr not-t ↦ absurd
                    (before-one_way t h (chain t inside)
                    (All-contains (λ h. Before h t) held h
                    (first.others_after t (All-contains (Contains pairs) p.some t p.among inside)
                    not-t) c))
              ])) in
              let differ : All (λ (t : Pair). ¬ (h ≡ t)) p.some = contained-all
              (λ (t : Pair). ¬ (h ≡ t)) p.some
              (λ t inside same. before-irreflexive t (subst (Before t) same (chain t inside))) in
              let fits = few (h ∷ p.some) held
              (AllPairs-cons (λ (x y : Pair). ¬ (x ≡ y)) h p.some differ
              (before-apart p.some p.ordered)) all in
              absurd (omega (arith, fits, first.count, p.count))
        ]
      ])

  top-behind : (ranges : List Range) (held : List Pair) → AllThere whole 0 ranges
      → All IsTopIn ranges → IsFirstK k (pairs-behind 0 ranges) held
      → IsTopOf (docs-behind 0 ranges) (map whole terms) weights k held
  top-behind ranges held there tops first =
      let pairs : List Pair = pairs-behind 0 ranges in
      let one : (e : Pair) → Contains held e → Contains (docs-behind 0 ranges) e.0
      × (e.1 ≡ score (map whole terms) weights e.0) = λ e c. among 0 ranges there tops e
      (All-contains (Contains pairs) held e first.of_them c) in
      record {
        ordered = first.ordered;
        found = contained-all (λ (e : Pair). Contains (docs-behind 0 ranges) e.0) held
            (λ e c. (one e c).0);
        scored = contained-all (λ (e : Pair). e.1 ≡ score (map whole terms) weights e.0) held
            (λ e c. (one e c).1);
        count = first.count ∙ counts 0 ranges tops;
        others_after = λ d c absent.
            let x : Pair = (d, score (map whole terms) weights d) in
            let not : ¬ Contains held x = λ inside. absent
            (contained-map (λ (e : Pair). e.0) held x inside) in
            elim (passed 0 ranges there tops d c) as (λ _. All (λ h. Before h x) held) [
              | inl given ↦ first.others_after x given not
              | inr p ↦ all-before pairs held x first not p
            ];
      }

-- the first k of the top lists of collections are the top list of the whole
pub tops-joined : ListsAreJoined → WideIsJoined → (documents counts : List ℕ) (given : List Pair)
    (k : ℕ) (held : List Pair) → IsFirstK k (joined_pairs 0 documents counts given) held
    → IsTopOfWhole documents counts given k held
tops-joined listed wide documents counts given k held first = λ terms weights ranges are
    documents_are counts_are given_are.
    let cs : List Collection = map (λ r. r.0) ranges in
    let whole : ℕ → List Posting = list_of (joined cs) in
    let lists : (t : ℕ) → whole t ≡ joined_list (parts_behind 0 cs t) = λ t. ap (λ c. list_of c t)
    (sym (wide cs are.together)) ∙ listed cs t in
    let there : AllThere whole 0 ranges = all-there whole (λ t. []) 0 ranges are.in_range
    (λ t. All-nil (λ e. e < 0)) lists in
    let pairs : joined_pairs 0 documents counts given ≡ pairs-behind k terms weights whole 0
    ranges = (λ i. joined_pairs 0 (documents_are i) (counts_are i) (given_are i))
    ∙ pairs-are k terms weights whole 0 ranges in
    subst (λ (docs : List ℕ). IsTopOf docs (map whole terms) weights k held)
    (sym (docs-are k terms weights whole 0 ranges there))
    (top-behind k terms weights whole ranges held there are.tops
    (subst (λ (ps : List Pair). IsFirstK k ps held) pairs first))
