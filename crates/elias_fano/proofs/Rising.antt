-- How the places of rising numbers rise among the high bits, and how far.
use Rattle.std.proofs.Common.{◌≡◌, ℕ, zero, suc, ◌+◌, ◌-◌, ◌/◌, ◌^◌, ◌<◌, ◌≤◌, List, length, get_or, ap, arith}
use Rattle.std.specs.List.Sorted.{IsStrictlyIncreasing}
use Rattle.std.proofs.lemmas.Nat.{pow_pos, le-div}
use Rattle.std.proofs.Math.Nat.{div-mul-le_self}
use Rattle.part_cost.proofs.Numbers.{rises}
use Rattle.part_cost.specs.Span.{past, AreRelative}
use Rattle.elias_fano.specs.EfBits.{high_place}
use Rattle.elias_fano.specs.EfPlaces.{past_place}

-- shifted numbers keep their order
pub shift-rises : (a b l : ℕ) → a ≤ b → a / 2 ^ l ≤ b / 2 ^ l
shift-rises a b l h = le-div (a / 2 ^ l) b (2 ^ l) (pow_pos l) (omega (arith, div-mul-le_self a (2 ^ l)))

pub places-rise : (ys : List ℕ) (l : ℕ) → IsStrictlyIncreasing ys → (i j : ℕ) → i ≤ j → j < length ys → high_place l i (get_or ys i 0) + (j - i) ≤ high_place l j (get_or ys j 0)
places-rise ys l up i j h lt = omega (arith, shift-rises (get_or ys i 0) (get_or ys j 0) l (omega (arith, rises ys up i j h lt)))

pub below-last : (u m : ℕ) (ys : List ℕ) → AreRelative u m ys → (k : ℕ) → k < m → get_or ys k 0 ≤ u - 1
below-last u m ys h k lt =
    omega (arith, rises ys h.rising k (m - 1) (omega arith) (omega arith))

-- each number's place is as far as it can be
pub place-within : (u m l : ℕ) (ys : List ℕ) → AreRelative u m ys → (k : ℕ) → k < m → high_place l k (get_or ys k 0) ≤ k + (u - 1) / 2 ^ l
place-within u m l ys h k lt = omega (arith, shift-rises (get_or ys k 0) (u - 1) l (below-last u m ys h k lt))

-- there are no more numbers than the universe has places
pub relative-fit : (u m : ℕ) (ys : List ℕ) → AreRelative u m ys → m ≤ u
relative-fit u m ys h =
    let some : 0 < m = h.some in
    omega (arith, rises ys h.rising 0 (m - 1) (omega arith) (omega arith))

-- a number's place lies past those before
pub past-before : (ys : List ℕ) (l : ℕ) → IsStrictlyIncreasing ys → (k : ℕ) → k < length ys → past_place l ys k ≤ high_place l k (get_or ys k 0)
past-before ys l up zero lt = omega arith
past-before ys l up (suc k) lt = omega (arith, places-rise ys l up k (suc k) (omega arith) lt)

-- a place before these is one of theirs, no place from here on is
pub before-past : (ys : List ℕ) (l : ℕ) → IsStrictlyIncreasing ys → (j k : ℕ) → j < k → k ≤ length ys → high_place l j (get_or ys j 0) < past_place l ys k
before-past ys l up j zero lt fit = absurd (omega arith)
before-past ys l up j (suc k) lt fit = omega (arith, places-rise ys l up j k (omega arith) (omega arith))

pub past_place-next : (l : ℕ) (ys : List ℕ) (k : ℕ) → past_place l ys (k + 1) ≡ high_place l k (get_or ys k 0) + 1
past_place-next l ys k = ap (past_place l ys) (let e : k + 1 ≡ suc k = omega arith in e)

-- the last number's one is the last of the high bits
pub last-place : (l : ℕ) (ys : List ℕ) (n : ℕ) → 0 < n → past_place l ys n ≡ n + (past ys n - 1) / 2 ^ l
last-place l ys zero some = absurd (omega arith)
last-place l ys (suc n) some = let e : past ys (suc n) - 1 ≡ get_or ys n 0 = omega arith in omega (arith, ap (λ v. v / 2 ^ l) e)
