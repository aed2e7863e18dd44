-- Lemmas on the weights of terms.
use Rattle.std.proofs.Common.{◌≡◌, ℕ, suc, zero, ◌+◌, ◌^◌, ◌<◌, ◌≤◌, ◌==◌, Bool, true, false, cond, ◌||◌, List, [], ◌∷◌, ◌++◌, length, map, take, set, get_or, filter, replicate, refl, ap, sym, ◌∙◌, subst, arith, eqb, inl, inr, IsTrue}
use Rattle.std.specs.Prelude.{Result, Ok, Err, MatchResult}
use Rattle.std.specs.List.{All, AllByRecursion, list_all, sum_by, zip}
use Rattle.std.specs.List.Sorted.{IsStrictlyIncreasing, IsBinarySearchResult}
use Rattle.std.specs.Ordering.{nat_cmp}
use Rattle.std.proofs.lemmas.Bool.{eqb-true, eqb-false, eq-eqb, ne_eqb, leb-true, cond_both, cond-true, cond-false, cases_lt, and_parts, false≢true}
use Rattle.std.proofs.lemmas.List.{take_more, get_or-map, length-map}
use Rattle.std.proofs.lemmas.List.Elements.{All-from_recursion}
use Rattle.std.proofs.lemmas.List.Kept.{AllPairs-from_increasing}
use Rattle.std.proofs.lemmas.List.Sorted.{searched}
use Rattle.std.proofs.lemmas.List.Sums.{sum_by-cons, sum_by-le, sum_by-take-le, sum_by_push, sum-map, AllPass-from_list_all}
use Rattle.query_text.specs.TermSet.{set_of, most_query_terms}
use Rattle.query_text.specs.Weights.{is_weight, greatest_weight, weight_of, AreWeights}
use Rattle.query_text.proofs.TermSets.{has, Above, Rising, absent, has-set_of, rising-set_of, has-first, rising-above, set_of-increasing}

abbrev Field : Type 0
Field = ℕ × ℕ

-- what a field adds to the weight of a term
abbrev pub added : ℕ → Field → ℕ
added t f = cond (f.0 == t) f.1 0

kept : (t : ℕ) (f : Field) (fs : List Field) (b : Bool) → sum_by (λ f. f.1) (cond b (f ∷ filter (λ f. f.0 == t) fs) (filter (λ f. f.0 == t) fs)) ≡ cond b f.1 0 + weight_of fs t
kept t f fs true = sum_by-cons (λ f. f.1) f (filter (λ f. f.0 == t) fs)
kept t f fs false = omega arith

-- the weight of a term is what all fields add to it
weight-is : (t : ℕ) (fs : List Field) → weight_of fs t ≡ sum_by (added t) fs
weight-is t [] = refl
weight-is t (f ∷ fs) = kept t f fs (f.0 == t) ∙ ap (λ (n : ℕ). added t f + n) (weight-is t fs) ∙ sym (sum_by-cons (added t) f fs)

weight-cons : (t : ℕ) (f : Field) (fs : List Field) → weight_of (f ∷ fs) t ≡ added t f + weight_of fs t
weight-cons t f fs = kept t f fs (f.0 == t)

weight-push : (t : ℕ) (fs : List Field) (f : Field) → weight_of (fs ++ f ∷ []) t ≡ weight_of fs t + added t f
weight-push t fs f = weight-is t (fs ++ f ∷ []) ∙ sum_by_push (added t) fs f ∙ ap (λ (n : ℕ). n + added t f) (sym (weight-is t fs))

added-same : (t : ℕ) (f : Field) → f.0 ≡ t → added t f ≡ f.1
added-same t f e = cond-true (f.0 == t) f.1 0 (eq-eqb f.0 t e)

added-other : (t : ℕ) (f : Field) → (f.0 ≡ t → ⊥) → added t f ≡ 0
added-other t f e = cond-false (f.0 == t) f.1 0 (ne_eqb f.0 t e)

-- ---- the weights of no fields
pub weights-none : (ts : List ℕ) → replicate (length ts) 0 ≡ map (weight_of []) ts
weights-none [] = refl
weights-none (t ∷ ts) = ap (λ (l : List ℕ). 0 ∷ l) (weights-none ts)

-- ---- one more field
above-at : (a : ℕ) (ts : List ℕ) (i : ℕ) → Above a ts → i < length ts → a < get_or ts i 0
above-at a [] i h lt = absurd (omega arith)
above-at a (t ∷ ts) zero h lt = h.0
above-at a (t ∷ ts) (suc i) h lt = omega (arith, above-at t ts i h.1 (omega arith), h.0)

weights-above : (fs : List Field) (f : Field) (a : ℕ) (ts : List ℕ) → f.0 ≤ a → Above a ts → map (weight_of fs) ts ≡ map (weight_of (fs ++ f ∷ [])) ts
weights-above fs f a [] le h = refl
weights-above fs f a (t ∷ ts) le h =
    let same : weight_of fs t ≡ weight_of (fs ++ f ∷ []) t = omega (arith, weight-push t fs f, added-other t f (λ e. omega (arith, h.0))) in
    ap (λ (w : ℕ). w ∷ map (weight_of fs) ts) same ∙ ap (λ (l : List ℕ). weight_of (fs ++ f ∷ []) t ∷ l) (weights-above fs f t ts (omega (arith, h.0)) h.1)

weights-at : (fs : List Field) (f : Field) (ts : List ℕ) (i : ℕ) → Rising ts → i < length ts → get_or ts i 0 ≡ f.0 →
    set (map (weight_of fs) ts) i (weight_of fs f.0 + f.1) ≡ map (weight_of (fs ++ f ∷ [])) ts
weights-at fs f [] i h lt e = absurd (omega arith)
weights-at fs f (t ∷ ts) zero h lt e =
    let here : weight_of fs f.0 + f.1 ≡ weight_of (fs ++ f ∷ []) t = ap (λ (n : ℕ). weight_of fs f.0 + n) (sym (added-same f.0 f refl)) ∙ sym (weight-push f.0 fs f) ∙ ap (weight_of (fs ++ f ∷ [])) (sym e) in
    ap (λ (w : ℕ). w ∷ map (weight_of fs) ts) here ∙ ap (λ (l : List ℕ). weight_of (fs ++ f ∷ []) t ∷ l) (weights-above fs f t ts (omega (arith, e)) h)
weights-at fs f (t ∷ ts) (suc i) h lt e =
    let later : t < get_or ts i 0 = above-at t ts i h (omega arith) in
    let here : weight_of fs t ≡ weight_of (fs ++ f ∷ []) t = omega (arith, weight-push t fs f, added-other t f (λ q. omega (arith, e))) in
    ap (λ (w : ℕ). w ∷ set (map (weight_of fs) ts) i (weight_of fs f.0 + f.1)) here ∙ ap (λ (l : List ℕ). weight_of (fs ++ f ∷ []) t ∷ l) (weights-at fs f ts i (rising-above t ts h) (omega arith) e)

-- a field is added to the weight of its term
pub weights-more : (fs : List Field) (ts now new : List ℕ) (j i term weight value : ℕ) → ts ≡ set_of (map (λ f. f.0) fs) → now ≡ map (weight_of (take j fs)) ts → j < length fs →
    get_or fs j (0, 0) ≡ (term, weight) → i < length ts → get_or ts i 0 ≡ term → value ≡ get_or now i 0 + weight → new ≡ set now i value → new ≡ map (weight_of (take (j + 1) fs)) ts
weights-more fs ts now new j i term weight value terms before within field inside at sums sets =
    let f : Field = (term, weight) in
    let rising : Rising ts = subst Rising (sym terms) (rising-set_of (map (λ f. f.0) fs)) in
    let here : get_or now i 0 ≡ weight_of (take j fs) term = ap (λ (l : List ℕ). get_or l i 0) before ∙ get_or-map (weight_of (take j fs)) ts i 0 0 inside ∙ ap (weight_of (take j fs)) at in
    let next : take (j + 1) fs ≡ take j fs ++ f ∷ [] = take_more fs j (0, 0) within ∙ ap (λ (g : Field). take j fs ++ g ∷ []) field in
    sets ∙ ap (set now i) (sums ∙ ap (λ (n : ℕ). n + weight) here) ∙ ap (λ (l : List ℕ). set l i (weight_of (take j fs) term + weight)) before ∙ weights-at (take j fs) f ts i rising inside at
    ∙ ap (λ (l : List Field). map (weight_of l) ts) (sym next)

-- ---- bounds of weights
weighs : (fs : List Field) → All (λ f. IsTrue (is_weight f.1)) fs → All (λ f. f.1 ≤ greatest_weight) fs
weighs fs all k d within = let h = and_parts _ _ (all k d within) in leb-true _ _ h.1

fields-weigh : (fs : List Field) → length fs ≤ most_query_terms → All (λ f. IsTrue (is_weight f.1)) fs → sum_by (λ f. f.1) fs < 2 ^ 26
fields-weigh fs few all = omega (arith, sum_by-le (λ f. f.1) greatest_weight fs (weighs fs all))

adds-less : (t : ℕ) (f : Field) → added t f ≤ f.1
adds-less t f = cond_both (f.0 == t) f.1 0 (λ (n : ℕ). n ≤ f.1) (λ yes. omega arith) (λ no. omega arith)

weight-le : (fs : List Field) (t : ℕ) → weight_of fs t ≤ sum_by (λ f. f.1) fs
weight-le [] t = omega arith
weight-le (f ∷ fs) t = omega (arith, weight-cons t f fs, adds-less t f, weight-le fs t, sum_by-cons (λ (f : Field). f.1) f fs)

-- a sum of weights fits
pub weight-fits : (fs : List Field) (ts now : List ℕ) (j i weight : ℕ) → now ≡ map (weight_of (take j fs)) ts → j < length fs → length fs ≤ most_query_terms → All (λ f. IsTrue (is_weight f.1)) fs → i < length ts →
    (get_or fs j (0, 0)).1 ≡ weight → get_or now i 0 + weight < 2 ^ 27
weight-fits fs ts now j i weight before within few all inside field =
    let here : get_or now i 0 ≡ weight_of (take j fs) (get_or ts i 0) = ap (λ (l : List ℕ). get_or l i 0) before ∙ get_or-map (weight_of (take j fs)) ts i 0 0 inside in
    let one : (get_or fs j (0, 0)).1 ≤ greatest_weight = weighs fs all j (0, 0) within in
    omega (arith, here, weight-le (take j fs) (get_or ts i 0), sum_by-take-le (λ (f : Field). f.1) fs j, fields-weigh fs few all, one)

-- ---- each term has a field
has-at : (x : ℕ) (xs : List ℕ) → has x xs ≡ true → (k : ℕ) × (k < length xs) × (get_or xs k 0 ≡ x)
has-at x [] h = absurd (false≢true h)
has-at x (y ∷ ys) h = elim (eqb x y) as (λ b. eqb x y ≡ b → (k : ℕ) × (k < length (y ∷ ys)) × (get_or (y ∷ ys) k 0 ≡ x)) [
  | true ↦ λ e. (0, omega arith, sym (eqb-true x y e))
  | false ↦ λ e. (let r = has-at x ys (ap (λ (b : Bool). b || has x ys) (sym e) ∙ h) in (suc r.0, omega (arith, r.1), r.2))
] refl

at-has : (xs : List ℕ) (k : ℕ) → k < length xs → has (get_or xs k 0) xs ≡ true
at-has [] k lt = absurd (omega arith)
at-has (x ∷ xs) zero lt = has-first x xs
at-has (x ∷ xs) (suc k) lt = or-right (eqb (get_or xs k 0) x) (has (get_or xs k 0) xs) (at-has xs k (omega arith))
  where
    or-right : (a b : Bool) → b ≡ true → (a || b) ≡ true
    or-right true b e = refl
    or-right false b e = e

rises : (ts : List ℕ) → IsStrictlyIncreasing ts → (i j : ℕ) → i ≤ j → j < length ts → get_or ts i 0 ≤ get_or ts j 0
rises ts up i j le within = elim (cases_lt i j) as (λ _. get_or ts i 0 ≤ get_or ts j 0) [
  | inl lt ↦ (let h : get_or ts i 0 < get_or ts j 0 = AllPairs-from_increasing ts up i j 0 lt within in omega arith)
  | inr ge ↦ (let same : i ≡ j = omega arith in let e : get_or ts i 0 ≡ get_or ts j 0 = ap (λ k. get_or ts k 0) same in omega arith)
]

-- the term of a field is found among the terms
pub term-found : (fs : List Field) (ts : List ℕ) (j term : ℕ) (r : Result ℕ ℕ) → ts ≡ set_of (map (λ f. f.0) fs) → j < length fs → (get_or fs j (0, 0)).0 ≡ term →
    IsBinarySearchResult (λ y. nat_cmp y term) ts r → MatchResult r (λ i. (i < length ts) × (get_or ts i 0 ≡ term)) (λ i. ⊥)
term-found fs ts j term r terms within field search-says = by r (searched ts term r search-says (rises ts (subst IsStrictlyIncreasing (sym terms) (set_of-increasing (map (λ f. f.0) fs)))))
  where
    firsts : List ℕ
    firsts = map (λ (f : Field). f.0) fs

    is-term : get_or firsts j 0 ≡ term
    is-term = get_or-map (λ (f : Field). f.0) fs j (0, 0) 0 within ∙ field

    among : has term ts ≡ true
    among = ap (has term) terms ∙ has-set_of term firsts ∙ ap (λ (t : ℕ). has t firsts) (sym is-term) ∙ at-has firsts j (omega (arith, length-map fs (λ (f : Field). f.0)))

    by : (r : Result ℕ ℕ) → MatchResult r (λ i. (i < length ts) × (get_or ts i 0 ≡ term)) (λ i. (i ≤ length ts) × ((k : ℕ) → k < i → get_or ts k 0 < term) × ((k : ℕ) → i ≤ k → k < length ts → term < get_or ts k 0)) →
        MatchResult r (λ i. (i < length ts) × (get_or ts i 0 ≡ term)) (λ i. ⊥)
    by (Ok i) h = h
    by (Err i) h =
        let at = has-at term ts among in
        elim (cases_lt at.0 i) as (λ _. ⊥) [
          | inl lt ↦ (let below = h.1 at.0 lt in let e = at.2 in omega arith)
          | inr ge ↦ (let above = h.2 at.0 ge at.1 in let e = at.2 in omega arith)
        ]

-- ---- the weights of the terms that fields name
weight-some : (fs : List Field) (t : ℕ) → list_all (λ f. is_weight f.1) fs ≡ true → has t (map (λ f. f.0) fs) ≡ true → 1 ≤ weight_of fs t
weight-some [] t all h = absurd (false≢true h)
weight-some (f ∷ fs) t all h =
    let both = and_parts (is_weight f.1) (list_all (λ (f : Field). is_weight f.1) fs) all in
    elim (eqb t f.0) as (λ b. eqb t f.0 ≡ b → 1 ≤ weight_of (f ∷ fs) t) [
      | true ↦ λ e. (let first : 1 ≤ f.1 = leb-true 1 f.1 (and_parts _ _ both.0).0 in omega (arith, weight-cons t f fs, added-same t f (sym (eqb-true t f.0 e))))
      | false ↦ λ e. omega (arith, weight-cons t f fs, weight-some fs t both.1 (ap (λ (b : Bool). b || has t (map (λ (f : Field). f.0) fs)) (sym e) ∙ h))
    ] refl

each-some : (fs : List Field) → list_all (λ f. is_weight f.1) fs ≡ true → (ts : List ℕ) → ((q : ℕ) → has q ts ≡ true → has q (map (λ f. f.0) fs) ≡ true) → AllByRecursion (λ w. 1 ≤ w) (map (weight_of fs) ts)
each-some fs all [] among = tt
each-some fs all (t ∷ ts) among = (weight-some fs t all (among t (has-first t ts)), each-some fs all ts (λ q h. among q (or-right (eqb q t) (has q ts) h)))
  where
    or-right : (a b : Bool) → b ≡ true → (a || b) ≡ true
    or-right true b e = refl
    or-right false b e = e

sums-none : (ts : List ℕ) → sum_by (weight_of []) ts ≡ 0
sums-none [] = refl
sums-none (t ∷ ts) = let none : weight_of [] t ≡ 0 = refl in omega (arith, sum_by-cons (weight_of []) t ts, sums-none ts)

sums-same : (f : Field) (fs : List Field) (ts : List ℕ) → has f.0 ts ≡ false → sum_by (weight_of (f ∷ fs)) ts ≡ sum_by (weight_of fs) ts
sums-same f fs [] h = refl
sums-same f fs (t ∷ ts) h = elim (eqb f.0 t) as (λ b. eqb f.0 t ≡ b → sum_by (weight_of (f ∷ fs)) (t ∷ ts) ≡ sum_by (weight_of fs) (t ∷ ts)) [
  | true ↦ λ e. absurd (false≢true (sym (sym (ap (λ (b : Bool). b || has f.0 ts) e) ∙ h)))
  | false ↦ λ e. (let others = sums-same f fs ts (ap (λ (b : Bool). b || has f.0 ts) (sym e) ∙ h) in
      omega (arith, sum_by-cons (weight_of (f ∷ fs)) t ts, sum_by-cons (weight_of fs) t ts, weight-cons t f fs, added-other t f (eqb-false f.0 t e)))
] refl

sums-more : (f : Field) (fs : List Field) (ts : List ℕ) → Rising ts → sum_by (weight_of (f ∷ fs)) ts ≤ f.1 + sum_by (weight_of fs) ts
sums-more f fs [] h = omega arith
sums-more f fs (t ∷ ts) h = elim (eqb f.0 t) as (λ b. eqb f.0 t ≡ b → sum_by (weight_of (f ∷ fs)) (t ∷ ts) ≤ f.1 + sum_by (weight_of fs) (t ∷ ts)) [
  | true ↦ λ e. (let same : f.0 ≡ t = eqb-true f.0 t e in
      let others = sums-same f fs ts (absent f.0 t ts (omega (arith, same)) h) in
      omega (arith, sum_by-cons (weight_of (f ∷ fs)) t ts, sum_by-cons (weight_of fs) t ts, weight-cons t f fs, adds-less t f))
  | false ↦ λ e. (let others = sums-more f fs ts (rising-above t ts h) in
      omega (arith, sum_by-cons (weight_of (f ∷ fs)) t ts, sum_by-cons (weight_of fs) t ts, weight-cons t f fs, added-other t f (eqb-false f.0 t e)))
] refl

sums-le : (fs : List Field) (ts : List ℕ) → Rising ts → sum_by (weight_of fs) ts ≤ sum_by (λ f. f.1) fs
sums-le [] ts h = omega (arith, sums-none ts)
sums-le (f ∷ fs) ts h = omega (arith, sums-more f fs ts h, sums-le fs ts h, sum_by-cons (λ (f : Field). f.1) f fs)

pub set-weighs : (fs : List Field) → length fs ≤ most_query_terms → list_all (λ f. is_weight f.1) fs ≡ true → AreWeights (map (weight_of fs) (set_of (map (λ f. f.0) fs)))
set-weighs fs few all =
    let terms : List ℕ = map (λ (f : Field). f.0) fs in
    record {
      some = All-from_recursion (λ w. 1 ≤ w) (map (weight_of fs) (set_of terms)) (each-some fs all (set_of terms) (λ q h. sym (has-set_of q terms) ∙ h));
      light = omega (arith, sum-map (weight_of fs) (set_of terms), sums-le fs (set_of terms) (rising-set_of terms), fields-weigh fs few (AllPass-from_list_all (λ (f : Field). is_weight f.1) fs all));
    }

-- ---- terms and weights side by side
pub zip-map : (g : ℕ → ℕ) (ts : List ℕ) → zip ts (map g ts) ≡ map (λ t. (t, g t)) ts
zip-map g [] = refl
zip-map g (t ∷ ts) = ap (λ (l : List Field). (t, g t) ∷ l) (zip-map g ts)

pub set-firsts : (g : ℕ → ℕ) (ts : List ℕ) → map (λ (f : Field). f.0) (map (λ t. (t, g t)) ts) ≡ ts
set-firsts g [] = refl
set-firsts g (t ∷ ts) = ap (λ (l : List ℕ). t ∷ l) (set-firsts g ts)

pub set-seconds : (g : ℕ → ℕ) (ts : List ℕ) → map (λ (f : Field). f.1) (map (λ t. (t, g t)) ts) ≡ map g ts
set-seconds g [] = refl
set-seconds g (t ∷ ts) = ap (λ (l : List ℕ). g t ∷ l) (set-seconds g ts)
