-- Lemmas on the greatest step of some values.
use Rattle.std.proofs.Common.{◌≡◌, ℕ, zero, suc, ◌+◌, ◌-◌, ◌<◌, ◌≤◌, List, ◌∷◌, length, take, drop, slice_index, get_or, max, ap, ◌∙◌, subst, arith, add-one}
use Rattle.std.specs.List.Sorted.{IsStrictlyIncreasing}
use Rattle.std.proofs.lemmas.List.{drop_more}
use Rattle.collection_model.specs.Collection.{greatest}
use Rattle.collection_model.specs.Sequences.{steps_from}
use Rattle.part_cost.specs.Span.{past, universe}
use Rattle.part_cost.proofs.Parts.{rises, past-at}
use Rattle.two_level.specs.Steps.{greatest_step}

-- no place, no step
pub step-none : (xs : List ℕ) (from : ℕ) → greatest_step xs from from ≡ 0
step-none xs from = ap (λ n. greatest (steps_from (past xs from) (take n (drop from xs)))) (let e : from - from ≡ 0 = omega arith in e)

-- the first step, and the rest
pub step-first : (xs : List ℕ) (from to : ℕ) → from < to → to ≤ length xs → greatest_step xs from to ≡ max (universe xs from (suc from)) (greatest_step xs (suc from) to)
step-first xs from to lt fit =
    ap (λ ys. greatest (steps_from (past xs from) (take (to - from) ys))) (drop_more xs from 0 (omega (arith, lt, fit)))
    ∙ ap (λ n. greatest (steps_from (past xs from) (take n (get_or xs from 0 ∷ drop (from + 1) xs)))) (let e : to - from ≡ suc (to - suc from) = omega (arith, lt) in e)
    ∙ ap (λ n. max (universe xs from (suc from)) (greatest (steps_from (past xs (suc from)) (take (to - suc from) (drop n xs))))) (add-one from)

-- the steps up to a place, and those from there
pub step-split : (xs : List ℕ) (from n to : ℕ) → from + n ≤ to → to ≤ length xs → greatest_step xs from to ≡ max (greatest_step xs from (from + n)) (greatest_step xs (from + n) to)
step-split xs from zero to le fit =
    let here : from + 0 ≡ from = omega arith in
    let none = step-none xs from in
    omega (arith, none, ap (λ m. greatest_step xs from m) here, ap (λ m. greatest_step xs m to) here)
step-split xs from (suc n) to le fit =
    let next : suc from + n ≡ from + suc n = omega arith in
    let rest = step-split xs (suc from) n to (omega (arith, le)) fit in
    let whole = step-first xs from to (omega (arith, le)) fit in
    let prefix = step-first xs from (from + suc n) (omega arith) (omega (arith, le, fit)) in
    omega (arith, rest, whole, prefix, ap (λ m. greatest_step xs (suc from) m) next, ap (λ m. greatest_step xs m to) next)

-- the steps up to a place between, and those from there
pub step-apart : (xs : List ℕ) (from mid to : ℕ) → from ≤ mid → mid ≤ to → to ≤ length xs → greatest_step xs from to ≡ max (greatest_step xs from mid) (greatest_step xs mid to)
step-apart xs from mid to a b fit =
    let same : from + (mid - from) ≡ mid = omega (arith, a) in
    subst (λ m. greatest_step xs from to ≡ max (greatest_step xs from m) (greatest_step xs m to)) same (step-split xs from (mid - from) to (omega (arith, a, b)) fit)

-- one step
pub step-one : (xs : List ℕ) (from : ℕ) → from < length xs → greatest_step xs from (suc from) ≡ universe xs from (suc from)
step-one xs from lt = omega (arith, step-first xs from (suc from) (omega arith) (omega (arith, lt)), step-none xs (suc from))

-- where all places of a part are taken each step is 1
step-unit : (xs : List ℕ) → IsStrictlyIncreasing xs → (i k j : ℕ) → i ≤ k → k < j → j ≤ length xs → universe xs i j ≡ j - i → universe xs k (suc k) ≡ 1
step-unit xs up i k j a b fit is =
    let prefix = rises xs up i k a (omega (arith, b, fit)) in
    let back = rises xs up (suc k) j (omega (arith, b)) fit in
    let here = rises xs up k (suc k) (omega arith) (omega (arith, b, fit)) in
    omega (arith, prefix, back, here, is, a, b)

pub step-full : (xs : List ℕ) → IsStrictlyIncreasing xs → (i j from n : ℕ) → i ≤ from → from + suc n ≤ j → j ≤ length xs → universe xs i j ≡ j - i → greatest_step xs from (from + suc n) ≡ 1
step-full xs up i j from zero a b fit is =
    let here : from + 1 ≡ suc from = omega arith in
    omega (arith, ap (λ m. greatest_step xs from m) here, step-one xs from (omega (arith, b, fit)), step-unit xs up i from j a (omega (arith, b)) fit is)
step-full xs up i j from (suc n) a b fit is =
    let next : suc from + suc n ≡ from + suc (suc n) = omega arith in
    let rest = step-full xs up i j (suc from) n (omega (arith, a)) (omega (arith, b)) fit is in
    let whole = step-first xs from (from + suc (suc n)) (omega arith) (omega (arith, b, fit)) in
    omega (arith, rest, whole, ap (λ m. greatest_step xs (suc from) m) next, step-unit xs up i from j a (omega (arith, b)) fit is)

-- so the greatest of some of them is 1
pub step-of-full : (xs : List ℕ) → IsStrictlyIncreasing xs → (i j from to : ℕ) → i ≤ from → from < to → to ≤ j → j ≤ length xs → universe xs i j ≡ j - i → greatest_step xs from to ≡ 1
step-of-full xs up i j from to a lt b fit is =
    let same : from + suc (to - suc from) ≡ to = omega (arith, lt) in
    subst (λ m. greatest_step xs from m ≡ 1) same (step-full xs up i j from (to - suc from) a (omega (arith, lt, b)) fit is)

-- the step of the one number of a part
pub step-of-one : (xs : List ℕ) (i j from to : ℕ) → i ≤ from → from < to → to ≤ j → j ≤ length xs → j - i ≡ 1 → greatest_step xs from to ≡ universe xs i j
step-of-one xs i j from to a lt b fit one =
    let here : i ≡ from = omega (arith, a, lt, b, one) in
    let end : suc from ≡ to = omega (arith, a, lt, b, one) in
    let last : j ≡ to = omega (arith, a, lt, b, one) in
    let is = step-one xs from (omega (arith, lt, b, fit)) in
    omega (arith, is, ap (λ m. greatest_step xs from m) end, ap (λ m. universe xs from m) end, ap (λ m. universe xs m j) here, ap (λ m. universe xs from m) last)

-- what is known of the steps that were read from one place up to another, where they go on up to a third
pub record StepsRead (xs : List ℕ) (from place to before most : ℕ) : Type 0 where
  pub before_is : before ≡ past xs place
  pub largest : max most (greatest_step xs place to) ≡ greatest_step xs from to

-- one more block of values was read
pub steps-next : (xs : List ℕ) (from place to room size before most step last : ℕ) → StepsRead xs from place to before most → place + room ≤ to → to ≤ length xs → size ≡ room
    → step ≡ greatest_step xs place (place + size) → last + 1 ≡ past xs (place + size) → StepsRead xs from (place + room) to (last + 1) (max step most)
steps-next xs from place to room size before most step last h fit within same is behind = record {
  before_is = behind ∙ ap (λ n. past xs (place + n)) same;
  largest = omega (arith, step-apart xs place (place + room) to (omega arith) fit within, h.largest, is, ap (λ n. greatest_step xs place (place + n)) same);
}

-- the value before the place behind a block
pub last-here : (xs : List ℕ) (place room size last : ℕ) → size ≡ room → 0 < room → last + 1 ≡ past xs (place + size) → last ≡ slice_index xs (place + room - 1)
last-here xs place room size last same some is = omega (arith, is, ap (λ n. past xs (place + n)) same, past-at xs (place + room) (omega (arith, some)))

-- all were read
pub steps-all : (xs : List ℕ) (from place to before most : ℕ) → StepsRead xs from place to before most → place ≡ to → most ≡ greatest_step xs from to
steps-all xs from place to before most h end = omega (arith, h.largest, step-none xs to, ap (λ n. greatest_step xs n to) end)
