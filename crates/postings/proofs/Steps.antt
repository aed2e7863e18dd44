-- Lemmas on sums and steps of numbers.
use Rattle.std.proofs.Common.{◌≡◌, refl, sym, ap, subst, ◌∙◌, ℕ, zero, suc, ◌+◌, ◌-◌, ◌*◌, ◌^◌, ◌<◌, ◌≤◌, List, [], ◌∷◌, ◌++◌, length, drop, get_or, append_assoc, arith}
use Rattle.std.specs.List.{All, sum}
use Rattle.std.specs.List.Sorted.{IsStrictlyIncreasing}
use Rattle.std.proofs.lemmas.List.Elements.{All-nil, All-cons, All-head, All-tail, All-get_or}
use Rattle.std.proofs.lemmas.List.{drop_more}
use Rattle.std.proofs.lemmas.List.Kept.{AllPairs-from_increasing}
use Rattle.std.proofs.lemmas.List.Sums.{sum_by-cons}
use Rattle.collection_model.specs.Sequences.{lessened, sums_from, steps_from}
use Rattle.collection_model.proofs.Sequences.{steps-length}
use Rattle.part_cost.specs.Span.{past}
use Rattle.part_cost.proofs.Numbers.{rising-tail}

-- numbers at or after a first one that rise
abbrev pub RiseFrom : ℕ → List ℕ → Type 0
RiseFrom s [] = Unit {0}
RiseFrom s (x ∷ xs) = (s ≤ x) × RiseFrom (x + 1) xs

rising-after : (x : ℕ) (xs : List ℕ) → IsStrictlyIncreasing (x ∷ xs) → (s : ℕ) → s ≤ x → RiseFrom s (x ∷ xs)
rising-after x [] up s before = (before, tt)
rising-after x (y ∷ xs) up s before =
    let step : x < y = AllPairs-from_increasing (x ∷ y ∷ xs) up 0 1 0 (omega arith) (omega arith) in
    (before, rising-after y xs (rising-tail x (y ∷ xs) up) (x + 1) (omega arith))

-- rising numbers rise from 0 on
pub rise-from_increasing : (xs : List ℕ) → IsStrictlyIncreasing xs → RiseFrom 0 xs
rise-from_increasing [] up = tt
rise-from_increasing (x ∷ xs) up = rising-after x xs up 0 (omega arith)

-- the number at a place is at least the first one
rise-head : (s : ℕ) (xs : List ℕ) → RiseFrom s xs → 0 < length xs → s ≤ get_or xs 0 0
rise-head s [] up some = absurd (omega arith)
rise-head s (x ∷ xs) up some = up.0

pub increasing-from_rise : (s : ℕ) (xs : List ℕ) → RiseFrom s xs → IsStrictlyIncreasing xs
increasing-from_rise s [] up k within = absurd (omega arith)
increasing-from_rise s (x ∷ xs) up zero within = omega (arith, rise-head (x + 1) xs up.1 (omega arith))
increasing-from_rise s (x ∷ xs) up (suc k) within =
    let step : get_or xs k 0 < get_or xs (k + 1) 0 = increasing-from_rise (x + 1) xs up.1 k (omega arith) in
    let next : get_or (x ∷ xs) (suc k + 1) 0 ≡ get_or (x ∷ xs) (suc (k + 1)) 0 = ap (λ i. get_or (x ∷ xs) i 0) (let e : suc k + 1 ≡ suc (k + 1) = omega arith in e) in
    omega arith

-- the steps of the sums of numbers are the numbers
pub steps-of_sums : (s : ℕ) (fs : List ℕ) → All (λ f. 1 ≤ f) fs → steps_from s (lessened (sums_from s fs)) ≡ fs
steps-of_sums s [] some = refl
steps-of_sums s (f ∷ fs) some =
    let one : 1 ≤ f = All-head (λ f. 1 ≤ f) f fs some in
    let back : s + f - 1 + 1 ≡ s + f = omega arith in
    let step : s + f - 1 + 1 - s ≡ f = omega arith in
    let rest : steps_from (s + f) (lessened (sums_from (s + f) fs)) ≡ fs = steps-of_sums (s + f) fs (All-tail (λ f. 1 ≤ f) f fs some) in
    ap (λ t. (s + f - 1 + 1 - s) ∷ steps_from t (lessened (sums_from (s + f) fs))) back ∙ ap (λ y. y ∷ steps_from (s + f) (lessened (sums_from (s + f) fs))) step ∙ ap (λ ys. f ∷ ys) rest

-- the sums of the steps of rising numbers are the numbers
pub sums-of_steps : (s : ℕ) (xs : List ℕ) → RiseFrom s xs → lessened (sums_from s (steps_from s xs)) ≡ xs
sums-of_steps s [] up = refl
sums-of_steps s (x ∷ xs) up =
    let sum_here : s + (x + 1 - s) ≡ x + 1 = omega arith in
    let rest : lessened (sums_from (x + 1) (steps_from (x + 1) xs)) ≡ xs = sums-of_steps (x + 1) xs up.1 in
    ap (λ t. (t - 1) ∷ lessened (sums_from t (steps_from (x + 1) xs))) sum_here ∙ ap (λ y. y ∷ lessened (sums_from (x + 1) (steps_from (x + 1) xs))) (let e : x + 1 - 1 ≡ x = omega arith in e) ∙ ap (λ ys. x ∷ ys) rest

-- sums of numbers that are not zero rise
pub rise-sums : (s : ℕ) (fs : List ℕ) → All (λ f. 1 ≤ f) fs → RiseFrom s (lessened (sums_from s fs))
rise-sums s [] some = tt
rise-sums s (f ∷ fs) some =
    let one : 1 ≤ f = All-head (λ f. 1 ≤ f) f fs some in
    let back : s + f ≡ s + f - 1 + 1 = omega arith in
    ((let e : s ≤ s + f - 1 = omega arith in e), subst (λ t. RiseFrom t (lessened (sums_from (s + f) fs))) back (rise-sums (s + f) fs (All-tail (λ f. 1 ≤ f) f fs some)))

-- each of them is below the whole sum
pub sums-below : (s n : ℕ) (fs : List ℕ) → All (λ f. 1 ≤ f) fs → s + sum fs ≤ n → All (λ x. x < n) (lessened (sums_from s fs))
sums-below s n [] some whole = All-nil (λ x. x < n)
sums-below s n (f ∷ fs) some whole =
    let one : 1 ≤ f = All-head (λ f. 1 ≤ f) f fs some in
    let split : sum (f ∷ fs) ≡ f + sum fs = sum_by-cons (λ x. x) f fs in
    All-cons (λ x. x < n) (s + f - 1) (lessened (sums_from (s + f) fs)) (omega arith) (sums-below (s + f) n fs (All-tail (λ f. 1 ≤ f) f fs some) (omega arith))

-- the steps of rising numbers are not zero
pub steps-not_zero : (s : ℕ) (xs : List ℕ) → RiseFrom s xs → All (λ f. 1 ≤ f) (steps_from s xs)
steps-not_zero s [] up = All-nil (λ f. 1 ≤ f)
steps-not_zero s (x ∷ xs) up = let after : s ≤ x = up.0 in All-cons (λ f. 1 ≤ f) (x + 1 - s) (steps_from (x + 1) xs) (omega arith) (steps-not_zero (x + 1) xs up.1)

-- the steps of rising numbers add up to at most a bound of the numbers
pub steps-sum : (s n : ℕ) (xs : List ℕ) → RiseFrom s xs → All (λ x. x < n) xs → s ≤ n → s + sum (steps_from s xs) ≤ n
steps-sum s n [] up below first = omega arith
steps-sum s n (x ∷ xs) up below first =
    let here : x < n = All-head (λ x. x < n) x xs below in
    let split : sum ((x + 1 - s) ∷ steps_from (x + 1) xs) ≡ (x + 1 - s) + sum (steps_from (x + 1) xs) = sum_by-cons (λ x. x) (x + 1 - s) (steps_from (x + 1) xs) in
    omega (arith, steps-sum (x + 1) n xs up.1 (All-tail (λ x. x < n) x xs below) (omega arith))

-- the step at the first place
pub step-first : (s : ℕ) (xs : List ℕ) → 0 < length xs → get_or (steps_from s xs) 0 0 ≡ get_or xs 0 0 + 1 - s
step-first s [] some = absurd (omega arith)
step-first s (x ∷ xs) some = refl

-- the step at a later place
step-later : (s : ℕ) (xs : List ℕ) (k : ℕ) → suc k < length xs → get_or (steps_from s xs) (suc k) 0 ≡ get_or xs (suc k) 0 - get_or xs k 0
step-later s [] k within = absurd (omega arith)
step-later s (x ∷ xs) zero within = let first : get_or (steps_from (x + 1) xs) 0 0 ≡ get_or xs 0 0 + 1 - (x + 1) = step-first (x + 1) xs (omega arith) in omega arith
step-later s (x ∷ xs) (suc k) within = step-later (x + 1) xs k (omega arith)

-- the step at any place but the first
pub step-behind : (s : ℕ) (xs : List ℕ) (k : ℕ) → 0 < k → k < length xs → get_or (steps_from s xs) k 0 ≡ get_or xs k 0 - get_or xs (k - 1) 0
step-behind s xs zero some within = absurd (omega arith)
step-behind s xs (suc k) some within = omega (arith, step-later s xs k within, ap (λ i. get_or xs i 0) (let e : suc k - 1 ≡ k = omega arith in e))

-- the step at a place is how far its value lies past the one before it
pub step-past : (xs : List ℕ) (k : ℕ) → k < length xs → get_or (steps_from 0 xs) k 0 ≡ get_or xs k 0 + 1 - past xs k
step-past xs zero within = step-first 0 xs within
step-past xs (suc k) within = let step : get_or (steps_from 0 xs) (suc k) 0 ≡ get_or xs (suc k) 0 - get_or xs k 0 = step-later 0 xs k within in omega arith

-- where the steps fit a frequency, k of them reach at most k times the greatest that fits
pub past-few : (xs : List ℕ) (k : ℕ) → All (λ f. f < 2 ^ 32) (steps_from 0 xs) → k ≤ length xs → past xs k ≤ k * 4294967295
past-few xs zero fit within = omega arith
past-few xs (suc k) fit within =
    let before : past xs k ≤ k * 4294967295 = past-few xs k fit (omega arith) in
    let step : get_or (steps_from 0 xs) k 0 < 4294967296 = All-get_or (λ f. f < 4294967296) (steps_from 0 xs) k 0 (omega (arith, steps-length 0 xs)) fit in
    omega (arith, step-past xs k (omega arith))

-- what a value, and one more than the value before it, say of the step at their place
pub record IsStepAt (xs : List ℕ) (k value before : ℕ) : Type 0 where
  pub is : get_or (steps_from 0 xs) k 0 ≡ value + 1 - before
  pub forward : before ≤ value + 1
  pub fits : value + 1 - before < 4294967296
  pub few : value + 1 ≤ suc k * 4294967295

pub step-read : (xs : List ℕ) (k value before : ℕ) → k < length xs → All (λ f. 1 ≤ f) (steps_from 0 xs) → All (λ f. f < 2 ^ 32) (steps_from 0 xs)
    → value ≡ get_or xs k 0 → before ≡ past xs k → IsStepAt xs k value before
step-read xs k value before within not_zero fit read past_it =
    let within_steps : k < length (steps_from 0 xs) = omega (arith, steps-length 0 xs) in
    let is : get_or (steps_from 0 xs) k 0 ≡ value + 1 - before = omega (arith, step-past xs k within) in
    let some : 1 ≤ get_or (steps_from 0 xs) k 0 = All-get_or (λ f. 1 ≤ f) (steps_from 0 xs) k 0 within_steps not_zero in
    let small : get_or (steps_from 0 xs) k 0 < 4294967296 = All-get_or (λ f. f < 4294967296) (steps_from 0 xs) k 0 within_steps fit in
    let most : get_or xs k 0 + 1 ≤ suc k * 4294967295 = past-few xs (suc k) fit within in
    record { is = is; forward = omega arith; fits = omega arith; few = omega arith }

-- the whole sum after one more number
pub sum-next : (s n : ℕ) (fs : List ℕ) (i : ℕ) → i < length fs → s + sum (drop i fs) ≤ n → s + get_or fs i 0 + sum (drop (i + 1) fs) ≤ n
sum-next s n fs i within whole = omega (arith, ap sum (drop_more fs i 0 within), sum_by-cons (λ x. x) (get_or fs i 0) (drop (i + 1) fs))

-- the sums after one more number
pub sums-next : (items : List ℕ) (s : ℕ) (fs : List ℕ) (i : ℕ) → i < length fs
    → (items ++ (s + get_or fs i 0 - 1) ∷ []) ++ lessened (sums_from (s + get_or fs i 0) (drop (i + 1) fs)) ≡ items ++ lessened (sums_from s (drop i fs))
sums-next items s fs i within =
    append_assoc items ((s + get_or fs i 0 - 1) ∷ []) (lessened (sums_from (s + get_or fs i 0) (drop (i + 1) fs))) ∙ ap (λ ys. items ++ lessened (sums_from s ys)) (sym (drop_more fs i 0 within))
