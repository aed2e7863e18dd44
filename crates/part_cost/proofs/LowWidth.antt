use Rattle.std.proofs.Common.{◌≡◌, refl, sym, subst, ap, ℕ, zero, suc, ◌+◌, ◌-◌, ◌*◌, ◌/◌, ◌^◌, ◌<◌, ◌≤◌, ⊎_elim, lit<, ◌==◌, add-one, arith, get_or}
use Rattle.std.proofs.Math.Nat.{div-lt_iff_lt-mul, pow-le-pow_right, pow-suc, le-div_iff_mul-le}
use Rattle.std.proofs.lemmas.Nat.{shr-shr, pow-add, pow_pos, leading_length}
use Rattle.std.proofs.lemmas.Bool.{cases_lt, eq-eqb, ne_eqb}
use Rattle.std.specs.List.{range_with_len, position_or_len}
use Rattle.std.proofs.lemmas.List.Sums.{position_or_len_is}
use Rattle.std.proofs.lemmas.List.FromFn.{get_or-range_with_len, length-range_with_len}
use Rattle.part_cost.specs.Laws.{IsLowWidth, LowWidthIsBest}
use Rattle.part_cost.specs.Payload.{least_through, widest_low, ef_bits_at, ef_spacing, ef_payload, digits, IsBestLowWidth, low_width_of}

-- one place more halves once more
shr-next : (v l : ℕ) → v / 2 ^ (l + 1) ≡ v / 2 ^ l / 2
shr-next v l = sym (shr-shr v l 1)

-- from a width at which the high bits are few, the next takes no fewer bits
rises : (u m l : ℕ) → (u - 1) / 2 ^ l ≤ 2 * m → ef_bits_at u m l ≤ ef_bits_at u m (l + 1)
rises u m l few =
    let e = shr-next (u - 1) l in
    omega (arith, e)

-- from a width at which they are many, the next takes fewer
falls : (u m l : ℕ) → 2 * m < (u - 1) / 2 ^ l → ef_bits_at u m (l + 1) < ef_bits_at u m l
falls u m l many =
    let e = shr-next (u - 1) l in
    omega (arith, e)

-- the high bits never grow with the width
shr-falls : (v l k d : ℕ) → k ≡ l + d → v / 2 ^ k ≤ v / 2 ^ l
shr-falls v l k zero e =
    let same : k ≡ l = omega arith in
    subst (λ x. v / 2 ^ x ≤ v / 2 ^ l) (sym same) (omega arith)
shr-falls v l k (suc d) e =
    let next : k ≡ l + d + 1 = omega arith in
    subst (λ x. v / 2 ^ x ≤ v / 2 ^ l) (sym next) (omega (arith, shr-next v (l + d), shr-falls v l (l + d) d refl))

-- from a width at which they are few on, no width takes fewer bits
rises-on : (u m l k d : ℕ) → (u - 1) / 2 ^ l ≤ 2 * m → k ≡ l + d → ef_bits_at u m l ≤ ef_bits_at u m k
rises-on u m l k zero few e =
    let same : k ≡ l = omega arith in
    subst (λ x. ef_bits_at u m l ≤ ef_bits_at u m x) (sym same) (omega arith)
rises-on u m l k (suc d) few e =
    let next : k ≡ l + d + 1 = omega arith in
    let so_far = rises-on u m l (l + d) d few refl in
    let last = rises u m (l + d) (omega (arith, shr-falls (u - 1) l (l + d) d refl)) in
    subst (λ x. ef_bits_at u m l ≤ ef_bits_at u m x) (sym next) (omega (arith, so_far, last))

-- up to the first width at which they are few, each takes fewer bits than those before
falls-to : (u m k l d : ℕ) → ((j : ℕ) → j < l → 2 * m < (u - 1) / 2 ^ j) → l ≡ k + suc d → ef_bits_at u m l < ef_bits_at u m k
falls-to u m k l zero many e =
    let next : l ≡ k + 1 = omega arith in
    subst (λ x. ef_bits_at u m x < ef_bits_at u m k) (sym next) (falls u m k (many k (omega arith)))
falls-to u m k l (suc d) many e =
    let next : l ≡ k + suc d + 1 = omega arith in
    let so_far = falls-to u m k (k + suc d) d (λ j h. many j (omega arith)) refl in
    let last = falls u m (k + suc d) (many (k + suc d) (omega arith)) in
    subst (λ x. ef_bits_at u m x < ef_bits_at u m k) (sym next) (omega (arith, so_far, last))

-- l is the first width at which the high bits are few
pub record IsFirstFew (u m l : ℕ) : Type 0 where
  pub few : (u - 1) / 2 ^ l ≤ 2 * m
  pub many : (k : ℕ) → k < l → 2 * m < (u - 1) / 2 ^ k

less : (u m l k : ℕ) → IsFirstFew u m l → k < l → ef_bits_at u m l < ef_bits_at u m k
less u m l k h lt = falls-to u m k l (l - suc k) h.many (omega arith)

-- the first such width is the best one
pub best : (u m l : ℕ) → IsFirstFew u m l → IsBestLowWidth u m l
best u m l h = record {
  fewest = λ k. ⊎_elim
      (λ lt. let s = less u m l k h lt in omega arith)
      (λ ge. rises-on u m l k (k - l) h.few (omega arith))
      (cases_lt k l);
  first = λ k lt. less u m l k h lt;
}

-- before the width by which the greatest number has more digits than twice the count, the high bits are many
many-before : (u m w low k : ℕ) → 2 * m < 2 ^ w → 2 ^ (w + low) ≤ 2 * (u - 1) + 1 → k < low → 2 * m < (u - 1) / 2 ^ k
many-before u m w low k count greatest lt =
    let step : 2 ^ (w + k + 1) ≤ 2 ^ (w + low) = pow-le-pow_right (lit< tt) (omega arith) in
    let whole : 2 ^ (w + k) ≤ u - 1 = omega (arith, step, greatest, ap (λ x. 2 ^ x) (add-one (w + k)), pow-suc 2 (w + k)) in
    let quotient : 2 ^ w ≤ (u - 1) / 2 ^ k = (le-div_iff_mul-le (pow_pos k)).1 (omega (arith, whole, pow-add 2 w k)) in
    omega (arith, quotient, count)

-- behind it they are few
few-behind : (u m w low : ℕ) → u - 1 < 2 ^ (w + low) → 2 ^ w ≤ 2 * (2 * m) + 1 → (u - 1) / 2 ^ (low + 1) ≤ 2 * m
few-behind u m w low below count =
    let quotient : (u - 1) / 2 ^ low < 2 ^ w = (div-lt_iff_lt-mul {x = u - 1} {y = 2 ^ w} (pow_pos low)).1 (omega (arith, below, pow-add 2 w low)) in
    omega (arith, shr-next (u - 1) low, quotient, count)

-- so the best width is that one or the next, by the high bits at it
pub first-few : (u m low : ℕ) → u ≤ 2 ^ 63 → m ≤ 2 ^ 62 → low ≡ digits (u - 1) - digits (2 * m)
    → ((2 * m < (u - 1) / 2 ^ low) → IsFirstFew u m (low + 1)) × (((u - 1) / 2 ^ low ≤ 2 * m) → IsFirstFew u m low)
first-few u m low fit count e =
    let v = leading_length 64 (u - 1) (omega (arith, fit)) in
    let w = leading_length 64 (2 * m) (omega (arith, count)) in
    let gap : low ≡ v.0 - w.0 = omega (arith, e, v.1, w.1) in
    let many : (k : ℕ) → k < low → 2 * m < (u - 1) / 2 ^ k = λ k lt.
    many-before u m w.0 low k w.2 (subst (λ x. 2 ^ x ≤ 2 * (u - 1) + 1) (let same : v.0 ≡ w.0 + low = omega arith in same) v.3) lt in
    let reach : 2 ^ v.0 ≤ 2 ^ (w.0 + low) = pow-le-pow_right (lit< tt) (omega arith) in (
      λ more. record {
        few = few-behind u m w.0 low (omega (arith, reach, v.2)) w.3;
        many = λ k lt. ⊎_elim
            (λ early. many k early)
            (λ late. subst (λ x. 2 * m < (u - 1) / 2 ^ x) (let same : low ≡ k = omega arith in same) more)
            (cases_lt k low);
      },
      λ few. record { few = few; many = many },
    )

-- it is at most n where the universe is at most 2 ^ n
pub at-most : (u m l n : ℕ) → IsFirstFew u m l → 0 < u → u ≤ 2 ^ n → l ≤ n
at-most u m l n h some fit = ⊎_elim
    (λ lt.
    let none = (div-lt_iff_lt-mul {x = u - 1} {y = 1} (pow_pos n)).1 (omega arith) in
    omega (arith, none, h.many n lt))
    (λ le. le)
    (cases_lt n l)

-- what is nowhere less than a number is not less through n
least-above : (f : ℕ → ℕ) (x n : ℕ) → ((k : ℕ) → x ≤ f k) → x ≤ least_through f n
least-above f x zero h = h 0
least-above f x (suc n) h = omega (arith, least-above f x n h, h (suc n))

-- the least through n is reached at any place up to n from which no place is less
pub least-at : (f : ℕ → ℕ) (l n : ℕ) → l ≤ n → ((k : ℕ) → f l ≤ f k) → least_through f n ≡ f l
least-at f l zero h best =
    let same : l ≡ 0 = omega arith in
    subst (λ x. f 0 ≡ f x) (sym same) refl
least-at f l (suc n) h best = ⊎_elim
    (λ lt. omega (arith, least-at f l n (omega arith) best, best (suc n)))
    (λ ge.
    let same : l ≡ suc n = omega arith in
    let here : f l ≡ f (suc n) = ap f same in
    omega (arith, here, least-above f (f l) n best))
    (cases_lt l (suc n))

-- a place of the range is its number
at-place : (n k : ℕ) → k < n + 1 → get_or (range_with_len 0 (n + 1)) k 0 ≡ k
at-place n k h = omega (arith, get_or-range_with_len 0 (n + 1) k 0 h)

-- the first place at which the least through n is reached
first-least : (f : ℕ → ℕ) (l n : ℕ) → l ≤ n → ((k : ℕ) → f l ≤ f k) → ((k : ℕ) → k < l → f l < f k)
    → position_or_len (λ x. f x == least_through f n) (range_with_len 0 (n + 1)) ≡ l
first-least f l n h best first =
    let least = least-at f l n h best in
    let len = length-range_with_len 0 (n + 1) in
    position_or_len_is (λ x. f x == least_through f n) (range_with_len 0 (n + 1)) l 0 (omega (arith, len))
    (λ k lt.
    let here = ap f (at-place n k (omega arith)) in
    ne_eqb _ _ (λ e. omega (arith, first k lt, here, e)))
    (λ lt.
    let here = ap f (at-place n l (omega arith)) in
    eq-eqb _ _ (omega (arith, here)))

-- the best width is the first that takes the fewest bits through the widest
pub is-low-width : (u m l : ℕ) → IsBestLowWidth u m l → l ≤ widest_low → low_width_of u m ≡ l
unfolding low_width_of
is-low-width u m l h fit = first-least (ef_bits_at u m) l widest_low fit h.fewest h.first

-- a part in Elias-Fano form takes the bits at its best width, and its samples
pub ef-payload-at : (u m l : ℕ) → IsBestLowWidth u m l → l ≤ widest_low → ef_payload u m ≡ ef_bits_at u m l + (m - 1) / ef_spacing * digits (3 * m)
unfolding ef_payload
ef-payload-at u m l h fit = ap (λ x. x + (m - 1) / ef_spacing * digits (3 * m)) (least-at (ef_bits_at u m) l widest_low fit h.fewest)

-- that width is the low width
pub low-width-at : (u m l : ℕ) → 1 ≤ u → u ≤ 2 ^ widest_low → IsFirstFew u m l → (low_width_of u m ≡ l) × IsLowWidth u m l
low-width-at u m l some fit first =
    let within : l ≤ widest_low = at-most u m l widest_low first some fit in
    let h = best u m l first in
    (is-low-width u m l h within, record { best = h; within = within; few = first.few; many = first.many; takes = ef-payload-at u m l h within })

-- there is one, also where the count is beyond all universes: then it is 0
pub some-width : (u m : ℕ) → u ≤ 2 ^ 63 → (l : ℕ) × IsFirstFew u m l
some-width u m fit = ⊎_elim
    (λ lt.
    let low : ℕ = digits (u - 1) - digits (2 * m) in
    let is = first-few u m low fit (omega arith) refl in
    ⊎_elim (λ more. (low + 1, is.0 more)) (λ few. (low, is.1 few)) (cases_lt (2 * m) ((u - 1) / 2 ^ low)))
    (λ ge. (0, record { few = omega (arith, fit); many = λ k lt. absurd (omega arith) }))
    (cases_lt m (2 ^ 62))

pub low-width-is-best : LowWidthIsBest
low-width-is-best u m some fit =
    let found = some-width u m (omega (arith, fit)) in
    let at = low-width-at u m found.0 some fit found.1 in
    subst (λ x. IsLowWidth u m x) (sym at.0) at.1
