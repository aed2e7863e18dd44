use Rattle.std.proofs.Common.{◌≡◌, ℕ, suc, zero, ◌+◌, ◌<◌, ◌≤◌, ◌==◌, Bool, true, false, cond, ◌||◌, List, [], ◌∷◌, length, get_or, refl, ap, sym, ◌∙◌, subst, arith, eqb, nat_lt, IsPermutation, inl, inr}
use Rattle.std.specs.List.{list_any, list_all, dedup, dedup_from, AllByRecursion}
use Rattle.std.specs.List.Sorted.{IsStrictlyIncreasing, IsSorted}
use Rattle.std.specs.Ordering.{nat_cmp}
use Rattle.std.proofs.lemmas.Bool.{eqb-true, eqb-false, ltb-true, ltb-false, ne_eqb, eq-eqb, cond_both, cases_lt, or_left, or_from, and_parts, false≢true}
use Rattle.std.proofs.lemmas.List.Sorted.{list_any-IsPermutation}
use Rattle.std.proofs.lemmas.Map.Keys.{IsStrictlyIncreasing-dedup}
use Rattle.query_text.specs.TermSet.{into_set, set_of}

-- whether a number is among others
abbrev pub has : ℕ → List ℕ → Bool
has q xs = list_any (λ y. eqb q y) xs

-- numbers that rise from above a number on
abbrev pub Above : ℕ → List ℕ → Type 0
Above a [] = Unit {0}
Above a (x ∷ xs) = (a < x) × Above x xs

abbrev pub Rising : List ℕ → Type 0
Rising [] = Unit {0}
Rising (x ∷ xs) = Above x xs

above-from : (x : ℕ) (xs : List ℕ) → IsStrictlyIncreasing (x ∷ xs) → Above x xs
above-from x [] h = tt
above-from x (y ∷ ys) h =
    let behind : IsStrictlyIncreasing (y ∷ ys) =
    λ k lt. let e : suc k + 1 ≡ suc (k + 1) = omega arith in
    subst (λ (i : ℕ). get_or (y ∷ ys) k 0 < get_or (x ∷ y ∷ ys) i 0) e (h (suc k) (omega arith)) in
    (h 0 (omega arith), above-from y ys behind)

rising-from : (xs : List ℕ) → IsStrictlyIncreasing xs → Rising xs
rising-from [] h = tt
rising-from (x ∷ xs) h = above-from x xs h

increasing-above : (x : ℕ) (xs : List ℕ) → Above x xs → IsStrictlyIncreasing (x ∷ xs)
increasing-above x [] h k lt = absurd (omega arith)
increasing-above x (y ∷ ys) h zero lt = h.0
increasing-above x (y ∷ ys) h (suc k) lt =
    let e : suc (k + 1) ≡ suc k + 1 = omega arith in
    subst (λ (i : ℕ). get_or (y ∷ ys) k 0 < get_or (x ∷ y ∷ ys) i 0) e (increasing-above y ys h.1 k (omega arith))

increasing-from : (xs : List ℕ) → Rising xs → IsStrictlyIncreasing xs
increasing-from [] h = λ k lt. absurd (omega arith)
increasing-from (x ∷ xs) h = increasing-above x xs h

-- a number is not among those that rise from above it
pub eqb-below : (q x : ℕ) → q < x → eqb q x ≡ false
eqb-below q x lt = ne_eqb q x (λ e. omega arith)

pub absent : (q a : ℕ) (xs : List ℕ) → q ≤ a → Above a xs → has q xs ≡ false
absent q a [] le h = refl
absent q a (x ∷ xs) le h = ap (λ t. t || has q xs) (eqb-below q x (omega arith)) ∙ absent q x xs (omega arith) h.1

or_twice : (a b : Bool) → (a || b) ≡ (a || (a || b))
or_twice true b = refl
or_twice false b = refl

or_swap : (a b c : Bool) → (a || (b || c)) ≡ (b || (a || c))
or_swap true true c = refl
or_swap true false c = refl
or_swap false true c = refl
or_swap false false c = refl

-- what a number put into a set leaves
has-into_set : (q t : ℕ) (xs : List ℕ) → has q (into_set t xs) ≡ (eqb q t || has q xs)
has-into_set q t [] = refl
has-into_set q t (x ∷ xs) =
    cond_both (t == x) (x ∷ xs) (cond (nat_lt t x) (t ∷ x ∷ xs) (x ∷ into_set t xs)) (λ l. has q l ≡ (eqb q t || has q (x ∷ xs)))
    (λ yes. or_twice (eqb q x) (has q xs) ∙ ap (λ b. eqb q b || has q (x ∷ xs)) (sym (eqb-true t x yes)))
    (λ other. cond_both (nat_lt t x) (t ∷ x ∷ xs) (x ∷ into_set t xs) (λ l. has q l ≡ (eqb q t || has q (x ∷ xs)))
    (λ below. refl)
    (λ behind. ap (λ b. eqb q x || b) (has-into_set q t xs) ∙ or_swap (eqb q x) (eqb q t) (has q xs)))

pub has-set_of : (q : ℕ) (ts : List ℕ) → has q (set_of ts) ≡ has q ts
has-set_of q [] = refl
has-set_of q (t ∷ ts) = has-into_set q t (set_of ts) ∙ ap (λ b. eqb q t || b) (has-set_of q ts)

after : (t x : ℕ) → (t == x) ≡ false → nat_lt t x ≡ false → x < t
after t x other behind =
    let le : x ≤ t = ltb-false t x behind in
    let ne : t ≡ x → ⊥ = eqb-false t x other in
    omega arith

above-into_set : (a t : ℕ) (xs : List ℕ) → a < t → Above a xs → Above a (into_set t xs)
above-into_set a t [] lt h = (lt, tt)
above-into_set a t (x ∷ xs) lt h =
    cond_both (t == x) (x ∷ xs) (cond (nat_lt t x) (t ∷ x ∷ xs) (x ∷ into_set t xs)) (Above a)
    (λ yes. h)
    (λ other. cond_both (nat_lt t x) (t ∷ x ∷ xs) (x ∷ into_set t xs) (Above a)
    (λ below. (lt, (ltb-true t x below, h.1)))
    (λ behind. (h.0, above-into_set x t xs (after t x other behind) h.1)))

rising-into_set : (t : ℕ) (xs : List ℕ) → Rising xs → Rising (into_set t xs)
rising-into_set t [] h = tt
rising-into_set t (x ∷ xs) h =
    cond_both (t == x) (x ∷ xs) (cond (nat_lt t x) (t ∷ x ∷ xs) (x ∷ into_set t xs)) Rising
    (λ yes. h)
    (λ other. cond_both (nat_lt t x) (t ∷ x ∷ xs) (x ∷ into_set t xs) Rising
    (λ below. (ltb-true t x below, h))
    (λ behind. above-into_set x t xs (after t x other behind) h))

pub rising-set_of : (ts : List ℕ) → Rising (set_of ts)
rising-set_of [] = tt
rising-set_of (t ∷ ts) = rising-into_set t (set_of ts) (rising-set_of ts)

pub has-first : (x : ℕ) (xs : List ℕ) → has x (x ∷ xs) ≡ true
has-first x xs = or_left (eqb x x) (has x xs) (eq-eqb x x refl)

pub rising-above : (a : ℕ) (xs : List ℕ) → Above a xs → Rising xs
rising-above a [] h = tt
rising-above a (x ∷ xs) h = h.1

-- the first of a rising list stands first in each rising list of the same numbers
not_below : (x : ℕ) (xs : List ℕ) (y : ℕ) (ys : List ℕ) → Above y ys → has x (x ∷ xs) ≡ has x (y ∷ ys) → x < y → ⊥
not_below x xs y ys ry h lt =
    let none : has x (y ∷ ys) ≡ false = or_from (eqb x y) (has x ys) (eqb-below x y lt) (absent x y ys (omega arith) ry) in
    false≢true (sym none ∙ sym h ∙ has-first x xs)

same_first : (x : ℕ) (xs : List ℕ) (y : ℕ) (ys : List ℕ) → Above x xs → Above y ys → ((q : ℕ) → has q (x ∷ xs) ≡ has q (y ∷ ys)) → x ≡ y
same_first x xs y ys rx ry h =
    let left : x < y → ⊥ = not_below x xs y ys ry (h x) in
    let right : y < x → ⊥ = not_below y ys x xs rx (sym (h y)) in
    omega arith

same_rest : (x : ℕ) (xs : List ℕ) (y : ℕ) (ys : List ℕ) → Above x xs → Above y ys → ((q : ℕ) → has q (x ∷ xs) ≡ has q (y ∷ ys)) → x ≡ y →
    (q : ℕ) → has q xs ≡ has q ys
same_rest x xs y ys rx ry h e q =
    elim (cases_lt x q) [
      | inr le ↦ absent q x xs le rx ∙ sym (absent q y ys (omega arith) ry)
      | inl lt ↦
          let left : eqb q x ≡ false = ne_eqb q x (λ k. omega arith) in
          let right : eqb q y ≡ false = ne_eqb q y (λ k. omega arith) in
          ap (λ b. b || has q xs) (sym left) ∙ h q ∙ ap (λ b. b || has q ys) right
    ]

-- rising lists of the same numbers are one list
same : (xs ys : List ℕ) → Rising xs → Rising ys → ((q : ℕ) → has q xs ≡ has q ys) → xs ≡ ys
same [] [] rx ry h = refl
same [] (y ∷ ys) rx ry h = absurd (false≢true (h y ∙ has-first y ys))
same (x ∷ xs) [] rx ry h = absurd (false≢true (sym (h x) ∙ has-first x xs))
same (x ∷ xs) (y ∷ ys) rx ry h =
    let e : x ≡ y = same_first x xs y ys rx ry h in
    ap (λ f. f ∷ xs) e ∙ ap (λ l. y ∷ l) (same xs ys (rising-above x xs rx) (rising-above y ys ry) (same_rest x xs y ys rx ry h e))

-- what `dedup` leaves
has-dedup_from : (q k : ℕ) (xs : List ℕ) → has q (dedup_from eqb k xs) ≡ (eqb q k || has q xs)
has-dedup_from q k [] = refl
has-dedup_from q k (x ∷ xs) =
    cond_both (eqb x k) (dedup_from eqb k xs) (k ∷ dedup_from eqb x xs) (λ l. has q l ≡ (eqb q k || has q (x ∷ xs)))
    (λ yes. has-dedup_from q k xs ∙ or_twice (eqb q k) (has q xs) ∙ ap (λ b. eqb q k || (eqb q b || has q xs)) (sym (eqb-true x k yes)))
    (λ other. ap (λ b. eqb q k || b) (has-dedup_from q x xs))

has-dedup : (q : ℕ) (xs : List ℕ) → has q (dedup eqb xs) ≡ has q xs
has-dedup q [] = refl
has-dedup q (x ∷ xs) = has-dedup_from q x xs

-- numbers that were sorted and rid of repeats are the set of them
pub dedup-sorted : (ts sorted : List ℕ) → IsPermutation ts sorted → IsSorted nat_cmp sorted → dedup eqb sorted ≡ set_of ts
dedup-sorted ts sorted moved order =
    same (dedup eqb sorted) (set_of ts) (rising-from (dedup eqb sorted) (IsStrictlyIncreasing-dedup sorted order)) (rising-set_of ts)
    (λ q. has-dedup q sorted ∙ sym (list_any-IsPermutation (λ y. eqb q y) ts sorted moved) ∙ sym (has-set_of q ts))

pub set_of-increasing : (ts : List ℕ) → IsStrictlyIncreasing (set_of ts)
set_of-increasing ts = increasing-from (set_of ts) (rising-set_of ts)

-- a set has at most as many numbers as were put into it
length-into_set : (t : ℕ) (xs : List ℕ) → length (into_set t xs) ≤ suc (length xs)
length-into_set t [] = omega arith
length-into_set t (x ∷ xs) =
    cond_both (t == x) (x ∷ xs) (cond (nat_lt t x) (t ∷ x ∷ xs) (x ∷ into_set t xs)) (λ l. length l ≤ suc (suc (length xs)))
    (λ yes. omega arith)
    (λ other. cond_both (nat_lt t x) (t ∷ x ∷ xs) (x ∷ into_set t xs) (λ l. length l ≤ suc (suc (length xs)))
    (λ below. omega arith)
    (λ behind. omega (arith, length-into_set t xs)))

pub length-set_of : (ts : List ℕ) → length (set_of ts) ≤ length ts
length-set_of [] = omega arith
length-set_of (t ∷ ts) = omega (arith, length-into_set t (set_of ts), length-set_of ts)

-- and no greater ones
below-into_set : (n t : ℕ) (xs : List ℕ) → t < n → AllByRecursion (λ x. x < n) xs → AllByRecursion (λ x. x < n) (into_set t xs)
below-into_set n t [] lt h = (lt, tt)
below-into_set n t (x ∷ xs) lt h =
    cond_both (t == x) (x ∷ xs) (cond (nat_lt t x) (t ∷ x ∷ xs) (x ∷ into_set t xs)) (AllByRecursion (λ x. x < n))
    (λ yes. h)
    (λ other. cond_both (nat_lt t x) (t ∷ x ∷ xs) (x ∷ into_set t xs) (AllByRecursion (λ x. x < n))
    (λ below. (lt, h))
    (λ behind. (h.0, below-into_set n t xs lt h.1)))

pub below-set_of : (n : ℕ) (ts : List ℕ) → list_all (λ t. nat_lt t n) ts ≡ true → AllByRecursion (λ t. t < n) (set_of ts)
below-set_of n [] h = tt
below-set_of n (t ∷ ts) h =
    let both = and_parts (nat_lt t n) (list_all (λ t. nat_lt t n) ts) h in
    below-into_set n t (set_of ts) (ltb-true t n both.0) (below-set_of n ts both.1)
