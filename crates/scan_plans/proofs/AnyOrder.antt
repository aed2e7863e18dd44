-- Lemmas on top lists whose documents come in any order.
use Rattle.std.proofs.Common.{◌≡◌, refl, sym, ap, inl, inr, ◌⊎◌, ◌∙◌, subst, ℕ, suc, ◌+◌, ◌<◌, ◌≤◌, Bool, true, false, cond, min, List, [], ◌∷◌, length, get_or, map, take, arith}
use Rattle.std.specs.Prelude.{Contains, AllPairs}
use Rattle.std.specs.List.{All, filter, list_any, range_with_len}
use Rattle.std.proofs.lemmas.Bool.{cases_Bool, cases_lt, false≢true, false_from_ne_true}
use Rattle.std.proofs.lemmas.List.{length-map, get_or-map, get_or_default}
use Rattle.std.proofs.lemmas.List.Elements.{All-contains, All-nil, All-weaker, filter_passes}
use Rattle.std.proofs.lemmas.List.FromFn.{length-range_with_len, get_or-range_with_len}
use Rattle.std.proofs.lemmas.List.Kept.{AllPairs-filter}
use Rattle.collection_model.specs.Collection.{Posting}
use Rattle.scan_plans.specs.Matches.{has_doc, in_any, score}
use Rattle.scan_plans.specs.IsTop.{Before, IsTopOf}
use Rattle.scan_plans.specs.Ranking.{in_order, IsFirstK}
use Rattle.scan_plans.specs.Best.{scored}
use Rattle.scan_plans.specs.AnyOrder.{AreDifferent, FirstOfNone, FirstAfterOffer, FirstAfterPass, OutrankedByLast, SeenNone, SeenIsHeld, SeenAfterOffer, SeenAfterSkips, SeenAll}
use Rattle.scan_plans.proofs.Order.{Pair, before-chain, same-pair, all-contained, first-k, first-k-one, first-k-more, in_order-more}
use Rattle.scan_plans.proofs.Scans.{filter-below, contains-first, contains-later, contains-split, contains-map, contains-from_map}
use Rattle.scan_plans.proofs.Floors.{kept-from, kept-to}

-- ---- pairs
differ-head : {X : Type 0} (x : X) (xs : List X) → AreDifferent (x ∷ xs) → (y : X) → Contains xs y → x ≡ y → ⊥
differ-head x xs apart y c same = let w = c.1 in apart 0 (suc c.0) x (omega arith) (omega arith) (same ∙ sym (at-any x y xs c))
  where
    at-any : {X : Type 0} (d y : X) (xs : List X) (c : Contains xs y) → get_or xs c.0 d ≡ y
    at-any d y xs c = get_or_default xs c.0 d y c.1 ∙ c.2

differ-tail : {X : Type 0} (x : X) (xs : List X) → AreDifferent (x ∷ xs) → AreDifferent xs
differ-tail x xs apart i j d lt within = apart (suc i) (suc j) d (omega arith) (omega arith)

-- different pairs have an order
ordered-all : (pairs : List Pair) → AreDifferent pairs → AllPairs Before (in_order pairs)
ordered-all [] apart = λ i j d lt within. absurd (omega arith)
ordered-all (x ∷ pairs) apart = in_order-more x pairs (ordered-all pairs (differ-tail x pairs apart)) (differ-head x pairs apart)

pub first-of_none : FirstOfNone
first-of_none k = record {
  ordered = λ i j d lt within. absurd (omega arith);
  of_them = All-nil (Contains {X = Pair} []);
  count = omega arith;
  others_after = λ e c absent. All-nil (λ (h : Pair). Before h e);
}

pub first-after_offer : FirstAfterOffer
first-after_offer k e pairs held new apart so_far absent first =
    let ordered = ordered-all pairs apart in
    let other : (x : Pair) → Contains pairs x → e ≡ x → ⊥ = λ x c same. absent (subst (Contains pairs) (sym same) c) in
    let is = first-k-one k pairs held (take k (in_order pairs)) so_far (first-k k pairs ordered) in
    subst (IsFirstK k (e ∷ pairs)) (sym (first-k-more k e pairs held new ordered other is first)) (first-k k (e ∷ pairs) (in_order-more e pairs ordered other))

pub first-after_pass : FirstAfterPass
first-after_pass k e pairs held so_far behind =
    let full = behind.0 in
    let count = so_far.count in
    record {
      ordered = so_far.ordered;
      of_them = All-weaker (Contains pairs) (Contains (e ∷ pairs)) (λ x c. contains-later e pairs x c) held so_far.of_them;
      count = omega arith;
      others_after = λ x c absent. elim (contains-split e pairs x c) as (λ _. All (λ h. Before h x) held) [
        | inl same ↦ subst (λ (z : Pair). All (λ h. Before h z) held) same behind.1
        | inr inside ↦ so_far.others_after x inside absent
      ];
    }

pub outranked-by_last : OutrankedByLast
outranked-by_last k e last held full is later = (
  full,
  All-weaker (λ (h : Pair). (h ≡ last) ⊎ Before h last) (λ (h : Pair). Before h e)
      (λ h r. elim r as (λ _. Before h e) [ inl same ↦ subst (λ (z : Pair). Before z e) (sym same) later | inr before ↦ before-chain h last e before later ]) held is.others_before,
)

-- ---- documents that were seen
module _ (lists : List (List Posting)) (weights : List ℕ) (k : ℕ) where
  -- a top list is the first of the documents with their scores
  first-of_top : (docs : List ℕ) (held : List Pair) → IsTopOf docs lists weights k held → IsFirstK k (map (scored lists weights) docs) held
  first-of_top docs held top =
      let is : (x : Pair) → Contains held x → scored lists weights x.0 ≡ x = λ x c. let s = All-contains (λ (e : Pair). e.1 ≡ score lists weights e.0) held x top.scored c in same-pair (scored lists weights x.0) x refl (sym s) in
      record {
        ordered = top.ordered;
        of_them = all-contained (Contains (map (scored lists weights) docs)) held (λ x c.
            subst (Contains (map (scored lists weights) docs)) (is x c) (contains-map (scored lists weights) docs x.0 (All-contains (λ (e : Pair). Contains docs e.0) held x top.found c)));
        count = top.count ∙ ap (min k) (sym (length-map docs (scored lists weights)));
        others_after = λ x c absent.
            let r = contains-from_map (scored lists weights) docs x c in
            subst (λ (z : Pair). All (λ h. Before h z) held) r.2 (top.others_after r.0 r.1 (λ h.
            let f = contains-from_map (λ (e : Pair). e.0) held r.0 h in
            absent (subst (Contains held) (sym (is f.0 f.1) ∙ ap (scored lists weights) f.2 ∙ r.2) f.1)));
      }

  -- and the other way round
  top-of_first : (docs : List ℕ) (held : List Pair) → IsFirstK k (map (scored lists weights) docs) held → IsTopOf docs lists weights k held
  top-of_first docs held first =
      let of : (x : Pair) → Contains held x → (d : ℕ) × Contains docs d × (scored lists weights d ≡ x) = λ x c. contains-from_map (scored lists weights) docs x (All-contains (Contains (map (scored lists weights) docs)) held x first.of_them c) in
      record {
        ordered = first.ordered;
        found = all-contained (λ e. Contains docs e.0) held (λ x c. let r = of x c in subst (Contains docs) (ap (λ (z : Pair). z.0) r.2) r.1);
        scored = all-contained (λ e. e.1 ≡ score lists weights e.0) held (λ x c. let r = of x c in sym (ap (λ (z : Pair). z.1) r.2) ∙ ap (score lists weights) (ap (λ (z : Pair). z.0) r.2));
        count = first.count ∙ ap (min k) (length-map docs (scored lists weights));
        others_after = λ d c absent. first.others_after (scored lists weights d) (contains-map (scored lists weights) docs d c) (λ h. absent (contains-map (λ (e : Pair). e.0) held (scored lists weights d) h));
      }

  -- only which documents there are, and how many, matters
  top-same : (docs others : List ℕ) (held : List Pair) → length docs ≡ length others → ((d : ℕ) → Contains docs d → Contains others d) → ((d : ℕ) → Contains others d → Contains docs d) → IsTopOf docs lists weights k held → IsTopOf others lists weights k held
  top-same docs others held count to from top = record {
    ordered = top.ordered;
    found = All-weaker (λ (e : Pair). Contains docs e.0) (λ (e : Pair). Contains others e.0) (λ e c. to e.0 c) held top.found;
    scored = top.scored;
    count = top.count ∙ ap (min k) count;
    others_after = λ d c absent. top.others_after d (from d c) absent;
  }

-- different documents give different pairs
scored-apart : (lists : List (List Posting)) (weights docs : List ℕ) → AreDifferent docs → AreDifferent (map (scored lists weights) docs)
scored-apart lists weights docs apart i j d lt within same =
    let l = length-map docs (scored lists weights) in
    let at : (n : ℕ) → n < length docs → (get_or (map (scored lists weights) docs) n d).0 ≡ get_or docs n d.0 = λ n inside. ap (λ (z : Pair). z.0) (get_or-map (scored lists weights) docs n d.0 d inside) in
    apart i j d.0 lt (omega arith) (sym (at i (omega arith)) ∙ ap (λ (z : Pair). z.0) same ∙ at j (omega arith))

-- the documents that any list has are different
any-apart : (n : ℕ) (lists : List (List Posting)) → AreDifferent (in_any n lists)
any-apart n lists =
    let p : ℕ → Bool = λ d. list_any (has_doc d) lists in
    AllPairs-filter (λ (x y : ℕ). ¬ (x ≡ y)) p (range_with_len 0 n)
    (λ i j d lt within same. let l = length-range_with_len 0 n in let a = get_or-range_with_len 0 n i d (omega arith) in let b = get_or-range_with_len 0 n j d (omega arith) in absurd (omega arith))

-- where two tests agree on a list, they keep the same
keeps-step : (a b : Bool) (x : ℕ) (xs ys : List ℕ) → a ≡ b → xs ≡ ys → cond a (x ∷ xs) xs ≡ cond b (x ∷ ys) ys
keeps-step a b x xs ys test same = ap (λ (t : Bool). cond t (x ∷ xs) xs) test ∙ ap (λ (l : List ℕ). cond b (x ∷ l) l) same

keeps-same : (p q : ℕ → Bool) (xs : List ℕ) → ((x : ℕ) → Contains xs x → p x ≡ q x) → filter p xs ≡ filter q xs
keeps-same p q [] same = refl
keeps-same p q (x ∷ xs) same = keeps-step (p x) (q x) x (filter p xs) (filter q xs) (same x (contains-first x xs)) (keeps-same p q xs (λ y c. same y (contains-later x xs y c)))

keeps-all : (p : ℕ → Bool) (xs : List ℕ) → ((x : ℕ) → Contains xs x → p x ≡ true) → filter p xs ≡ xs
keeps-all p [] all = refl
keeps-all p (x ∷ xs) all = keeps-step (p x) true x (filter p xs) xs (all x (contains-first x xs)) (keeps-all p xs (λ y c. all y (contains-later x xs y c)))

keeps-none : (p : ℕ → Bool) (xs : List ℕ) → ((x : ℕ) → p x ≡ false) → filter p xs ≡ []
keeps-none p [] none = refl
keeps-none p (x ∷ xs) none = ap (λ (t : Bool). cond t (x ∷ filter p xs) (filter p xs)) (none x) ∙ keeps-none p xs none

-- a weaker test keeps no fewer
count-step : (a b : Bool) (x : ℕ) (xs ys : List ℕ) → (a ≡ true → b ≡ true) → length xs ≤ length ys → length (cond a (x ∷ xs) xs) ≤ length (cond b (x ∷ ys) ys)
count-step true true x xs ys weaker le = omega arith
count-step true false x xs ys weaker le = absurd (false≢true (weaker refl))
count-step false true x xs ys weaker le = omega arith
count-step false false x xs ys weaker le = le

keeps-more : (p q : ℕ → Bool) (xs : List ℕ) → ((x : ℕ) → p x ≡ true → q x ≡ true) → length (filter p xs) ≤ length (filter q xs)
keeps-more p q [] weaker = omega arith
keeps-more p q (x ∷ xs) weaker = count-step (p x) (q x) x (filter p xs) (filter q xs) (weaker x) (keeps-more p q xs weaker)

-- a test that lets one more through keeps one more
one-step : (a b : Bool) (x : ℕ) (xs ys : List ℕ) → a ≡ false → b ≡ true → length ys ≡ length xs → length (cond b (x ∷ ys) ys) ≡ length (cond a (x ∷ xs) xs) + 1
one-step false true x xs ys not is same = omega arith
one-step true b x xs ys not is same = cc
one-step a false x xs ys not is same = cc

other-step : (a b : Bool) (x : ℕ) (xs ys : List ℕ) → b ≡ a → length ys ≡ length xs + 1 → length (cond b (x ∷ ys) ys) ≡ length (cond a (x ∷ xs) xs) + 1
other-step true true x xs ys is more = omega arith
other-step false false x xs ys is more = more
other-step true false x xs ys is more = cc
other-step false true x xs ys is more = cc

keeps-one : (p q : ℕ → Bool) (d : ℕ) (xs : List ℕ) → AreDifferent xs → Contains xs d → p d ≡ false → q d ≡ true → ((e : ℕ) → ¬ (e ≡ d) → q e ≡ p e) → length (filter q xs) ≡ length (filter p xs) + 1
keeps-one p q d [] apart c not is others = let w = c.1 in absurd (omega arith)
keeps-one p q d (x ∷ xs) apart c not is others =
    elim (contains-split x xs d c) as (λ _. length (filter q (x ∷ xs)) ≡ length (filter p (x ∷ xs)) + 1) [
      | inl same ↦ one-step (p x) (q x) x (filter p xs) (filter q xs) (ap p same ∙ not) (ap q same ∙ is)
          (ap length (keeps-same q p xs (λ y inside. others y (λ e. differ-head x xs apart y inside (same ∙ sym e)))))
      | inr inside ↦ other-step (p x) (q x) x (filter p xs) (filter q xs) (others x (λ e. differ-head x xs apart d inside e)) (keeps-one p q d xs (differ-tail x xs apart) inside not is others)
    ]

pub seen-none : SeenNone
seen-none n lists weights k seen none =
    subst (λ (docs : List ℕ). IsTopOf docs lists weights k []) (sym (keeps-none seen (in_any n lists) none)) (top-of_first lists weights k [] [] (first-of_none k))

pub seen-is_held : SeenIsHeld
seen-is_held n d lists weights k seen held top not c =
    let r = contains-from_map (λ (e : Pair). e.0) held d c in
    let kept = All-contains (λ (e : Pair). Contains (filter seen (in_any n lists)) e.0) held r.0 top.found r.1 in
    let is = All-contains (λ d. seen d ≡ true) (filter seen (in_any n lists)) r.0.0 (filter_passes seen (in_any n lists)) kept in
    false≢true (sym not ∙ ap seen (sym r.2) ∙ is)

-- a document below n that a list has is one of those in any
any-has : (n d : ℕ) (lists : List (List Posting)) → d < n → list_any (has_doc d) lists ≡ true → Contains (in_any n lists) d
any-has n d lists lt is = kept-to (λ d. list_any (has_doc d) lists) (range_with_len 0 n) d (d, (let l = length-range_with_len 0 n in omega arith), (let at = get_or-range_with_len 0 n d d lt in omega arith)) is

any-found : (n d : ℕ) (lists : List (List Posting)) → Contains (in_any n lists) d → list_any (has_doc d) lists ≡ true
any-found n d lists c = All-contains (λ d. list_any (has_doc d) lists ≡ true) (in_any n lists) d (filter_passes (λ d. list_any (has_doc d) lists) (range_with_len 0 n)) c

any-within : (n d : ℕ) (lists : List (List Posting)) → Contains (in_any n lists) d → d < n
any-within n d lists c = All-contains (λ d. d < n) (in_any n lists) d (filter-below (λ d. list_any (has_doc d) lists) n) c

-- whether two numbers are the same
same-or_not : (d e : ℕ) → (d ≡ e) ⊎ ((d ≡ e) → ⊥)
same-or_not d e = elim (cases_lt d e) as (λ _. (d ≡ e) ⊎ ((d ≡ e) → ⊥)) [
  | inl lt ↦ inr (λ same. absurd (omega arith))
  | inr ge ↦ elim (cases_lt e d) as (λ _. (d ≡ e) ⊎ ((d ≡ e) → ⊥)) [ inl gt ↦ inr (λ same. absurd (omega arith)) | inr le ↦ inl (omega arith) ]
]

pub seen-after_offer : SeenAfterOffer
seen-after_offer n d lists weights k seen more held new top lt has not is others first =
    let all : List ℕ = in_any n lists in
    let docs : List ℕ = filter seen all in
    let apart : AreDifferent docs = AllPairs-filter (λ (x y : ℕ). ¬ (x ≡ y)) seen all (any-apart n lists) in
    let inside : Contains all d = any-has n d lists lt has in
    let passes : (e : ℕ) → Contains docs e → seen e ≡ true = λ e c. All-contains (λ d. seen d ≡ true) docs e (filter_passes seen all) c in
    let absent : ¬ Contains (map (scored lists weights) docs) (scored lists weights d) = λ c.
    let r = contains-from_map (scored lists weights) docs (scored lists weights d) c in
    false≢true (sym not ∙ ap seen (sym (ap (λ (z : Pair). z.0) r.2)) ∙ passes r.0 r.1) in
    let with_d : IsTopOf (d ∷ docs) lists weights k new = top-of_first lists weights k (d ∷ docs) new
    (first-after_offer k (scored lists weights d) (map (scored lists weights) docs) held new (scored-apart lists weights docs apart) (first-of_top lists weights k docs held top) absent first) in
    let count = keeps-one seen more d all (any-apart n lists) inside not is others in
    let to : (e : ℕ) → Contains (d ∷ docs) e → Contains (filter more all) e = λ e c. elim (contains-split d docs e c) as (λ _. Contains (filter more all) e) [
      | inl same ↦ kept-to more all e (subst (Contains all) same inside) (ap more (sym same) ∙ is)
      | inr kept ↦ kept-to more all e (kept-from seen all e kept) (others e (λ same. false≢true (sym not ∙ ap seen (sym same) ∙ passes e kept)) ∙ passes e kept)
    ] in
    let from : (e : ℕ) → Contains (filter more all) e → Contains (d ∷ docs) e = λ e c. elim (same-or_not e d) as (λ _. Contains (d ∷ docs) e) [
      | inl same ↦ subst (Contains (d ∷ docs)) (sym same) (contains-first d docs)
      | inr other ↦ contains-later d docs e (kept-to seen all e (kept-from more all e c) (sym (others e other) ∙ All-contains (λ d. more d ≡ true) (filter more all) e (filter_passes more all) c))
    ] in
    top-same lists weights k (d ∷ docs) (filter more all) new (omega arith) to from with_d

-- where fewer than k are held, nothing is outranked
pub seen-after_skips : SeenAfterSkips
seen-after_skips n lists weights k seen more held top weaker skipped =
    let all : List ℕ = in_any n lists in
    let count = top.count in
    elim (cases_lt (length held) k) as (λ _. IsTopOf (filter more all) lists weights k held) [
      | inl few ↦ (let agree : (d : ℕ) → Contains all d → seen d ≡ more d = λ d c. elim (cases_Bool (seen d)) as (λ _. seen d ≡ more d) [
        | inl was ↦ was ∙ sym (weaker d was)
        | inr not ↦ not ∙ sym (false_from_ne_true (more d) (λ is. elim (skipped d not is) as (λ _. ⊥) [
          | inl none ↦ false≢true (sym none ∙ any-found n d lists c)
          | inr behind ↦ (let full = behind.0 in absurd (omega arith))
        ]))
      ] in
          subst (λ (docs : List ℕ). IsTopOf docs lists weights k held) (keeps-same seen more all agree) top)
      | inr full ↦ (let fewer = keeps-more seen more all weaker in
          record {
            ordered = top.ordered;
            found = All-weaker (λ (e : Pair). Contains (filter seen all) e.0) (λ (e : Pair). Contains (filter more all) e.0)
                (λ e c. kept-to more all e.0 (kept-from seen all e.0 c) (weaker e.0 (All-contains (λ d. seen d ≡ true) (filter seen all) e.0 (filter_passes seen all) c))) held top.found;
            scored = top.scored;
            count = omega arith;
            others_after = λ d c absent. elim (cases_Bool (seen d)) as (λ _. All (λ e. Before e (d, score lists weights d)) held) [
              | inl was ↦ top.others_after d (kept-to seen all d (kept-from more all d c) was) absent
              | inr not ↦ elim (skipped d not (All-contains (λ d. more d ≡ true) (filter more all) d (filter_passes more all) c)) as (λ _. All (λ e. Before e (d, score lists weights d)) held) [
                | inl none ↦ absurd (false≢true (sym none ∙ any-found n d lists (kept-from more all d c)))
                | inr behind ↦ behind.1
              ]
            ];
          })
    ]

pub seen-all : SeenAll
seen-all n lists weights k seen held top all =
    subst (λ (docs : List ℕ). IsTopOf docs lists weights k held) (keeps-all seen (in_any n lists) (λ d c. all d (any-within n d lists c) (any-found n d lists c))) top
