-- Lemmas on rising numbers, and on the places that have a sample.
use Rattle.std.proofs.Common.{◌≡◌, ℕ, zero, suc, ◌+◌, ◌-◌, ◌*◌, ◌/◌, ◌<◌, ◌≤◌, List, ◌∷◌, length, get_or, refl, ap, arith}
use Rattle.std.specs.List.{range_with_len}
use Rattle.std.specs.List.Sorted.{IsStrictlyIncreasing}
use Rattle.std.proofs.lemmas.List.FromFn.{length-range_with_len, get_or-range_with_len}
use Rattle.std.proofs.Math.Nat.{le-div_iff_mul-le}

-- numbers that rise lie as far apart as their places at least
rises-by : (ys : List ℕ) → IsStrictlyIncreasing ys → (i d j : ℕ) → j ≡ i + d → j < length ys → get_or ys i 0 + d ≤ get_or ys j 0
rises-by ys up i zero j e lt =
    let same : get_or ys j 0 ≡ get_or ys i 0 = ap (λ k. get_or ys k 0) (let k : j ≡ i = omega arith in k) in
    omega arith
rises-by ys up i (suc d) j e lt =
    let before = rises-by ys up i d (i + d) refl (omega arith) in
    let step : get_or ys (i + d) 0 < get_or ys (i + d + 1) 0 = up (i + d) (omega arith) in
    let same : get_or ys j 0 ≡ get_or ys (i + d + 1) 0 = ap (λ k. get_or ys k 0) (let k : j ≡ i + d + 1 = omega arith in k) in
    omega arith

pub rises : (ys : List ℕ) → IsStrictlyIncreasing ys → (i j : ℕ) → i ≤ j → j < length ys → get_or ys i 0 + (j - i) ≤ get_or ys j 0
rises ys up i j h lt = rises-by ys up i (j - i) j (omega arith) lt

-- the numbers behind the first rise too
pub rising-tail : (x : ℕ) (xs : List ℕ) → IsStrictlyIncreasing (x ∷ xs) → IsStrictlyIncreasing xs
rising-tail x xs up k lt =
    let step = rises (x ∷ xs) up (suc k) (suc (k + 1)) (omega arith) (omega arith) in
    omega arith

-- numbers that follow one another rise
pub rising-range : (n : ℕ) → IsStrictlyIncreasing (range_with_len 0 n)
rising-range n k lt =
    let count = length-range_with_len 0 n in
    omega (arith, get_or-range_with_len 0 n k 0 (omega arith), get_or-range_with_len 0 n (k + 1) 0 (omega arith))

-- of m places, those with a sample: every place q * (j + 1) below m
pub sampled-within : (q m j : ℕ) → 1 ≤ q → 1 ≤ m → j < (m - 1) / q → q * (j + 1) < m
sampled-within q m j some any lt =
    let product : (j + 1) * q ≤ m - 1 = (le-div_iff_mul-le {k = q} {x = j + 1} {y = m - 1} some).0 (omega arith) in
    omega arith
