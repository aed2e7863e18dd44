-- Lemmas on what cursors that stand at their documents are at.
use Rattle.std.proofs.Common.{◌≡◌, refl, sym, ap, inl, inr, ◌⊎◌, ◌∙◌, subst, ℕ, zero, suc, ◌+◌, ◌-◌, ◌<◌, ◌≤◌, Bool, true, false, cond, min, List, [], ◌∷◌, ◌++◌, length, get_or, map, Option, Some, None, arith}
use Rattle.std.specs.Prelude.{Contains}
use Rattle.std.specs.List.{All, filter, filter_map, cons_option, fold, reduce, range_with_len, list_any}
use Rattle.std.proofs.lemmas.Bool.{cases_lt, false≢true}
use Rattle.std.proofs.lemmas.List.{append-nil, length-map, map-id}
use Rattle.std.proofs.lemmas.List.Elements.{All-contains, All-filter, Contains-get_or}
use Rattle.std.proofs.lemmas.List.FromFn.{length-range_with_len, get_or-range_with_len, filter_of_map_range_with_len_more}
use Rattle.std.proofs.lemmas.List.Folds.{list_any_none}
use Rattle.collection_model.specs.Collection.{Posting, docs_of}
use Rattle.cursor_api.specs.NextGeq.{IsCursorAt}
use Rattle.scan_plans.specs.Matches.{AreBelow, has_doc, in_any}
use Rattle.scan_plans.specs.Scan.{doc_at, StandsFrom}
use Rattle.scan_plans.proofs.Postings.{doc_at-some, doc_at-within, has_doc-none, has_doc-between, stands-later}

-- ---- membership
module _ {X : Type 0} where
  pub contained-all : (P : X → Type 0) (xs : List X) → ((x : X) → Contains xs x → P x) → All P xs
  contained-all P xs h k d within = h (get_or xs k d) (Contains-get_or xs k d within)

  pub contains-first : (x : X) (xs : List X) → Contains (x ∷ xs) x
  contains-first x xs = (0, omega arith, refl)

  pub contains-later : (y : X) (xs : List X) (x : X) → Contains xs x → Contains (y ∷ xs) x
  contains-later y xs x h = let w = h.1 in (suc h.0, omega arith, h.2)

  pub contains-split : (y : X) (xs : List X) (x : X) → Contains (y ∷ xs) x → (y ≡ x) ⊎ Contains xs x
  contains-split y xs x (zero, w, e) = inl e
  contains-split y xs x (suc k, w, e) = inr (k, omega arith, e)

  pub contains-none : (x : X) → Contains [] x → ⊥
  contains-none x h = let w = h.1 in absurd (omega arith)

  pub contains-map : {Y : Type 0} (f : X → Y) (xs : List X) (x : X) → Contains xs x → Contains (map f xs) (f x)
  contains-map f [] x c = absurd (contains-none x c)
  contains-map f (y ∷ xs) x (zero, w, e) = (0, omega arith, ap f e)
  contains-map f (y ∷ xs) x (suc k, w, e) = let h = contains-map f xs x (k, omega arith, e) in let w = h.1 in (suc h.0, omega arith, h.2)

  -- one that a function gives is given of one
  pub contains-from_map : {Y : Type 0} (f : X → Y) (xs : List X) (y : Y) → Contains (map f xs) y → (x : X) × Contains xs x × (f x ≡ y)
  contains-from_map f [] y c = let w = c.1 in absurd (omega arith)
  contains-from_map f (x ∷ xs) y (zero, w, e) = (x, contains-first x xs, e)
  contains-from_map f (x ∷ xs) y (suc k, w, e) = let h = contains-from_map f xs y (k, omega arith, e) in (h.0, contains-later x xs h.0 h.1, h.2)

-- ---- the least of some numbers
fold-le : (a : ℕ) (xs : List ℕ) → (fold min a xs ≤ a) × ((e : ℕ) → Contains xs e → fold min a xs ≤ e)
fold-le a [] = (omega arith, λ e c. absurd (contains-none e c))
fold-le a (x ∷ xs) =
    let more = fold-le (min a x) xs in
    let first = more.0 in
    (omega arith, λ e c. elim (contains-split x xs e c) as (λ _. fold min (min a x) xs ≤ e) [ inl p ↦ omega arith | inr k ↦ more.1 e k ])

fold-among : (a : ℕ) (xs : List ℕ) → Contains (a ∷ xs) (fold min a xs)
fold-among a [] = contains-first a []
fold-among a (x ∷ xs) =
    let m : ℕ = fold min (min a x) xs in
    elim (contains-split (min a x) xs m (fold-among (min a x) xs)) as (λ _. Contains (a ∷ x ∷ xs) m) [
      | inl p ↦ elim (cases_lt a x) as (λ _. Contains (a ∷ x ∷ xs) m) [
        | inl lt ↦ (0, omega arith, (let q : a ≡ m = omega arith in q))
        | inr ge ↦ (1, omega arith, (let q : x ≡ m = omega arith in q))
      ]
      | inr k ↦ contains-later a (x ∷ xs) m (contains-later x xs m k)
    ]

pub least-some : (xs : List ℕ) (d : ℕ) → reduce min xs ≡ Some d → Contains xs d × ((e : ℕ) → Contains xs e → d ≤ e)
least-some [] d is = cc
least-some (x ∷ xs) d is =
    let same : fold min x xs ≡ d = cc in
    let bounds = fold-le x xs in
    let first = bounds.0 in
    (subst (Contains (x ∷ xs)) same (fold-among x xs), λ e c. elim (contains-split x xs e c) as (λ _. d ≤ e) [ inl p ↦ omega arith | inr k ↦ (let h = bounds.1 e k in omega arith) ])

pub least-none : (xs : List ℕ) → reduce min xs ≡ None → (e : ℕ) → Contains xs e → ⊥
least-none [] is e c = contains-none e c
least-none (x ∷ xs) is e c = cc

-- ---- what a filter that maps keeps
cons-from : (o : Option ℕ) (rest : List ℕ) (d : ℕ) → Contains (cons_option o rest) d → (o ≡ Some d) ⊎ Contains rest d
cons-from None rest d c = inr c
cons-from (Some e) rest d c = elim (contains-split e rest d c) as (λ _. (Some e ≡ Some d) ⊎ Contains rest d) [ inl p ↦ inl (ap Some p) | inr k ↦ inr k ]

cons-here : (o : Option ℕ) (rest : List ℕ) (d : ℕ) → o ≡ Some d → Contains (cons_option o rest) d
cons-here None rest d is = cc
cons-here (Some e) rest d is = (0, omega arith, (let q : e ≡ d = cc in q))

cons-there : (o : Option ℕ) (rest : List ℕ) (d : ℕ) → Contains rest d → Contains (cons_option o rest) d
cons-there None rest d c = c
cons-there (Some e) rest d c = contains-later e rest d c

module _ {X : Type 0} (h : X → Option ℕ) where
  kept-from : (cs : List X) (d : ℕ) → Contains (filter_map h cs) d → (c : X) × Contains cs c × (h c ≡ Some d)
  kept-from [] d k = absurd (contains-none d k)
  kept-from (c ∷ cs) d k = elim (cons-from (h c) (filter_map h cs) d k) as (λ _. (x : X) × Contains (c ∷ cs) x × (h x ≡ Some d)) [
    | inl is ↦ (c, contains-first c cs, is)
    | inr more ↦ (let r = kept-from cs d more in (r.0, contains-later c cs r.0 r.1, r.2))
  ]

  kept-to : (cs : List X) (c : X) (d : ℕ) → Contains cs c → h c ≡ Some d → Contains (filter_map h cs) d
  kept-to [] c d k is = absurd (contains-none c k)
  kept-to (x ∷ cs) c d k is = elim (contains-split x cs c k) as (λ _. Contains (filter_map h (x ∷ cs)) d) [
    | inl p ↦ cons-here (h x) (filter_map h cs) d (ap h p ∙ is)
    | inr more ↦ cons-there (h x) (filter_map h cs) d (kept-to cs c d more is)
  ]

-- ---- filters over all documents
module _ (p : ℕ → Bool) where
  filter-step : (n : ℕ) → filter p (range_with_len 0 (suc n)) ≡ filter p (range_with_len 0 n) ++ cond (p n) (n ∷ []) []
  filter-step n =
      let e : 0 + n ≡ n = omega arith in
      let next : suc n ≡ n + 1 = omega arith in
      ap (λ k. filter p (range_with_len 0 k)) next ∙ ap (filter p) (sym (map-id (range_with_len 0 (n + 1))))
      ∙ filter_of_map_range_with_len_more p (λ x. x) 0 n n e ∙ ap (λ l. filter p l ++ cond (p n) (n ∷ []) []) (map-id (range_with_len 0 n))

  pub filter-yes : (n m : ℕ) → n + 1 ≡ m → p n ≡ true → filter p (range_with_len 0 m) ≡ filter p (range_with_len 0 n) ++ n ∷ []
  filter-yes n m e yes-n =
      let next : m ≡ suc n = omega arith in
      ap (λ k. filter p (range_with_len 0 k)) next ∙ filter-step n ∙ ap (λ (b : Bool). filter p (range_with_len 0 n) ++ cond b (n ∷ []) []) yes-n

  filter-no : (n : ℕ) → p n ≡ false → filter p (range_with_len 0 (suc n)) ≡ filter p (range_with_len 0 n)
  filter-no n no-n = filter-step n ∙ ap (λ (b : Bool). filter p (range_with_len 0 n) ++ cond b (n ∷ []) []) no-n ∙ append-nil (filter p (range_with_len 0 n))

  skip-by : (low k : ℕ) → ((e : ℕ) → low ≤ e → e < low + k → p e ≡ false) → filter p (range_with_len 0 (low + k)) ≡ filter p (range_with_len 0 low)
  skip-by low zero none = let e : low + 0 ≡ low = omega arith in ap (λ k. filter p (range_with_len 0 k)) e
  skip-by low (suc k) none =
      let e : low + suc k ≡ suc (low + k) = omega arith in
      ap (λ k. filter p (range_with_len 0 k)) e ∙ filter-no (low + k) (none (low + k) (omega arith) (omega arith)) ∙ skip-by low k (λ d from lt. none d from (omega arith))

  -- nothing passes between two numbers
  pub filter-skip : (low high : ℕ) → low ≤ high → ((e : ℕ) → low ≤ e → e < high → p e ≡ false) → filter p (range_with_len 0 high) ≡ filter p (range_with_len 0 low)
  filter-skip low high le none =
      let e : high ≡ low + (high - low) = omega arith in
      ap (λ k. filter p (range_with_len 0 k)) e ∙ skip-by low (high - low) (λ d from lt. none d from (omega arith))

  -- nothing passes from either of two numbers on
  pub filter-same : (m n : ℕ) → ((e : ℕ) → m ≤ e → p e ≡ false) → ((e : ℕ) → n ≤ e → p e ≡ false) → filter p (range_with_len 0 m) ≡ filter p (range_with_len 0 n)
  filter-same m n over-m over-n =
      elim (cases_lt m n) as (λ _. filter p (range_with_len 0 m) ≡ filter p (range_with_len 0 n)) [
        | inl lt ↦ sym (filter-skip m n (omega arith) (λ e from lt. over-m e from))
        | inr ge ↦ filter-skip n m ge (λ e from lt. over-n e from)
      ]

  -- a number that a filter keeps is below the end
  pub filter-below : (n : ℕ) → All (λ d. d < n) (filter p (range_with_len 0 n))
  filter-below n = All-filter p (λ d. d < n) (range_with_len 0 n) (λ k d within. let l = length-range_with_len 0 n in let e = get_or-range_with_len 0 n k d (omega arith) in omega arith)

-- ---- documents of many lists
pub any-none : (lists : List (List Posting)) (e : ℕ) → ((l : List Posting) → Contains lists l → has_doc e l ≡ false) → list_any (has_doc e) lists ≡ false
any-none lists e none = list_any_none (has_doc e) lists (contained-all (λ l. has_doc e l ≡ false) lists none)

-- one document on
pub any-next : (d e : ℕ) (lists : List (List Posting)) → d + 1 ≡ e → list_any (has_doc d) lists ≡ true → in_any e lists ≡ in_any d lists ++ d ∷ []
any-next d e lists next is = filter-yes (λ x. list_any (has_doc x) lists) d e next is

pub any-same : (d e : ℕ) (lists : List (List Posting)) → d + 1 ≡ e → list_any (has_doc d) lists ≡ false → in_any e lists ≡ in_any d lists
any-same d e lists next is =
    filter-skip (λ x. list_any (has_doc x) lists) d e (omega arith)
    (λ x from before. let same : d ≡ x = omega arith in subst (λ (y : ℕ). list_any (has_doc y) lists ≡ false) same is)

-- no list has a document that is not below n
pub below-has_none : (n : ℕ) (lists : List (List Posting)) → AreBelow n lists → (e : ℕ) → n ≤ e → (l : List Posting) → Contains lists l → has_doc e l ≡ false
below-has_none n lists below e from l c =
    has_doc-none l e (λ k within. inl (let h : get_or (docs_of l) k 0 < n = All-contains (λ list. All (λ d. d < n) (docs_of list)) lists l below c k 0 (omega (arith, length-map l (λ p. p.doc))) in omega arith))

pub below-any : (n : ℕ) (lists : List (List Posting)) → AreBelow n lists → (e : ℕ) → n ≤ e → list_any (has_doc e) lists ≡ false
below-any n lists below e from = any-none lists e (below-has_none n lists below e from)

-- ---- the next document of a scan
module _ {X : Type 0} (list : X → List Posting) (place : X → ℕ) (good : (c : X) → IsCursorAt (list c) (place c)) where
  -- what holds where d is the least document at which a cursor stands
  pub record IsNextDoc (cs : List X) (low d : ℕ) : Type 0 where
    pub low_first : low ≤ d
    pub stand : All (λ c. StandsFrom d (list c) (place c)) cs
    pub at : (c : X) × Contains cs c × (doc_at (list c) (place c) ≡ Some d)
    pub skipped : in_any low (map list cs) ≡ in_any d (map list cs)

  pub next-doc : (cs : List X) (low d : ℕ) → All (λ c. StandsFrom low (list c) (place c)) cs → reduce min (filter_map (λ c. doc_at (list c) (place c)) cs) ≡ Some d → IsNextDoc cs low d
  next-doc cs low d stands is =
      let head : X → Option ℕ = λ c. doc_at (list c) (place c) in
      let least = least-some (filter_map head cs) d is in
      let at = kept-from head cs d least.0 in
      let first : X = at.0 in
      let here = doc_at-some (list first) (place first) d at.2 in
      let within : place first < length (list first) = here.0 in
      let is_d : get_or (docs_of (list first)) (place first) 0 ≡ d = here.1 in
      let from_low : low ≤ d = (let h = (All-contains (λ c. StandsFrom low (list c) (place c)) cs first stands at.1).left (place first) (omega arith) within in omega arith) in
      let stand : All (λ c. StandsFrom d (list c) (place c)) cs = contained-all (λ c. StandsFrom d (list c) (place c)) cs
      (λ c k. stands-later (list c) low d (place c) (good c).well_formed (All-contains (λ c. StandsFrom low (list c) (place c)) cs c stands k) from_low (λ e s. least.1 e (kept-to head cs c e k s))) in
      let none : (e : ℕ) → low ≤ e → e < d → list_any (has_doc e) (map list cs) ≡ false = λ e from before. any-none (map list cs) e
      (λ l k. let r = contains-from_map list cs l k in
      ap (has_doc e) (sym r.2) ∙ has_doc-between (list r.0) low d (place r.0) e (All-contains (λ c. StandsFrom low (list c) (place c)) cs r.0 stands r.1).passed (All-contains (λ c. StandsFrom d (list c) (place c)) cs r.0 stand r.1).left from before) in
      record {
        low_first = from_low;
        stand = stand;
        at = at;
        skipped = sym (filter-skip (λ d. list_any (has_doc d) (map list cs)) low d from_low none);
      }

  -- no cursor stands at a document
  pub no-next-doc : (cs : List X) (low n : ℕ) → All (λ c. StandsFrom low (list c) (place c)) cs → reduce min (filter_map (λ c. doc_at (list c) (place c)) cs) ≡ None → AreBelow n (map list cs) → in_any low (map list cs) ≡ in_any n (map list cs)
  no-next-doc cs low n stands is below =
      let head : X → Option ℕ = λ c. doc_at (list c) (place c) in
      filter-same (λ d. list_any (has_doc d) (map list cs)) low n
      (λ e from. any-none (map list cs) e (λ l k. let r = contains-from_map list cs l k in
      let c : X = r.0 in
      ap (has_doc e) (sym r.2) ∙ has_doc-none (list c) e (λ j within. elim (cases_lt j (place c)) as (λ _. (get_or (docs_of (list c)) j 0 < e) ⊎ (e < get_or (docs_of (list c)) j 0)) [
        | inl before ↦ inl (let h = (All-contains (λ c. StandsFrom low (list c) (place c)) cs c stands r.1).passed j before in omega arith)
        | inr after ↦ absurd (least-none (filter_map head cs) is (get_or (docs_of (list c)) (place c) 0) (kept-to head cs c _ r.1 (doc_at-within (list c) (place c) (omega arith))))
      ])))
      (below-any n (map list cs) below)

pub any-bound : (n : ℕ) (lists : List (List Posting)) (e : ℕ) → AreBelow n lists → list_any (has_doc e) lists ≡ true → e < n
any-bound n lists e below is =
    elim (cases_lt e n) as (λ _. e < n) [ inl lt ↦ lt | inr from ↦ absurd (false≢true (sym (below-any n lists below e from) ∙ is)) ]
