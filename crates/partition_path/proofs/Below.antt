-- Lemmas on the lines that lie under the cost of a part.
use Rattle.std.proofs.Common.{◌≡◌, refl, sym, subst, ◌∙◌, ℕ, zero, suc, ◌+◌, ◌-◌, ◌*◌, ◌/◌, ◌^◌, ◌<◌, ◌≤◌, ◌⊎◌, inl, inr, min, List, length, arith}
use Rattle.std.proofs.lemmas.Nat.{le-div, mul-le, pow_pos}
use Rattle.std.proofs.Math.Nat.{div-mul-le_self, lt-div-mul-add, pow-succ'}
use Rattle.std.proofs.lemmas.Bool.{cases_lt, cases_eq}
use Rattle.std.specs.List.Sorted.{IsStrictlyIncreasing}
use Rattle.part_cost.specs.Payload.{digits, least_through, widest_low, ef_bits_at, ef_payload, bitmap_payload, payload}
use Rattle.part_cost.specs.Span.{past, universe, cost_of_part}
use Rattle.part_cost.proofs.Forms.{payload-packed}
use Rattle.part_cost.proofs.Growth.{digits-grow}
use Rattle.part_cost.proofs.Parts.{rises}
use Rattle.partition_path.specs.Lines.{gap_at, width_weight, weights_to}

-- two quotients are no more than the quotient of the sum
div-adds : (a b n : ℕ) → 0 < n → a / n + b / n ≤ (a + b) / n
div-adds a b n some = le-div (a / n + b / n) (a + b) n some (omega (arith, div-mul-le_self a n, div-mul-le_self b n))

module _ (xs : List ℕ) (up : IsStrictlyIncreasing xs) where
  -- the weights of a part's numbers at a low width: each its field and its one, and together no more than the zeros of its universe
  weights-of-part : (k i d : ℕ) → i + d ≤ length xs → weights_to k xs (i + d) ≤ weights_to k xs i + (1024 * (k + 1) + 72) * d + 1024 * (past xs (i + d) - past xs i) / 2 ^ k
  weights-of-part k i zero fit =
      let here : weights_to k xs i ≤ weights_to k xs i + (1024 * (k + 1) + 72) * 0 + 1024 * (past xs i - past xs i) / 2 ^ k = omega arith in
      let place : i ≡ i + 0 = omega arith in
      subst (λ (x : ℕ). weights_to k xs x ≤ weights_to k xs i + (1024 * (k + 1) + 72) * 0 + 1024 * (past xs x - past xs i) / 2 ^ k) place here
  weights-of-part k i (suc d) fit =
      let before = weights-of-part k i d (omega (arith, fit)) in
      let so_far = rises xs up i (i + d) (omega arith) (omega (arith, fit)) in
      let one = rises xs up (i + d) (suc (i + d)) (omega arith) (omega (arith, fit)) in
      let sum = div-adds (1024 * (past xs (i + d) - past xs i)) (1024 * gap_at xs (i + d)) (2 ^ k) (pow_pos k) in
      let all : 1024 * (past xs (i + d) - past xs i) + 1024 * gap_at xs (i + d) ≡ 1024 * (past xs (suc (i + d)) - past xs i) = omega (arith, so_far, one) in
      let step : weights_to k xs (suc (i + d)) ≤ weights_to k xs i + (1024 * (k + 1) + 72) * suc d + 1024 * (past xs (suc (i + d)) - past xs i) / 2 ^ k = omega (arith, before, subst (λ (x : ℕ). 1024 * (past xs (i + d) - past xs i) / 2 ^ k + 1024 * gap_at xs (i + d) / 2 ^ k ≤ x / 2 ^ k) all sum) in
      let place : suc (i + d) ≡ i + suc d = omega arith in
      subst (λ (x : ℕ). weights_to k xs x ≤ weights_to k xs i + (1024 * (k + 1) + 72) * suc d + 1024 * (past xs x - past xs i) / 2 ^ k) place step

-- so many 1024th parts of a universe are no more zeros than those of its values, and one
zeros : (u n : ℕ) → 0 < n → 1024 * u / n ≤ 1024 * ((u - 1) / n) + 1024
zeros u n some =
    let q = (u - 1) / n in
    let z = 1024 * u / n in
    let low : z * n ≤ 1024 * u = div-mul-le_self (1024 * u) n in
    let high : u - 1 < q * n + n = lt-div-mul-add {a = u - 1} {b = n} some in
    elim (cases_lt (1024 * q + 1024) z) [
      | inl over ↦
          let more = mul-le (1024 * q + 1024 + 1) n z n (omega (arith, over)) (omega arith) in
          absurd (omega (arith, low, high, more, some))
      | inr under ↦ under
    ]

-- nine bits of a sample for 128 numbers are no more than the samples of a part, and nine bits
nine_digits : digits 387 ≡ 9
unfolding lib.Count.count_leading_zeros
nine_digits = refl

samples : (m : ℕ) → 72 * m ≤ 1024 * ((m - 1) / 128 * digits (3 * m)) + 1024 * 9
samples m = elim (cases_lt 128 m) [
  | inl many ↦
      let nine : 9 ≤ digits (3 * m) = subst (λ (x : ℕ). x ≤ digits (3 * m)) nine_digits (digits-grow 387 (3 * m) (omega (arith, many))) in
      let some = mul-le ((m - 1) / 128) 9 ((m - 1) / 128) (digits (3 * m)) (omega arith) nine in
      omega (arith, some, many)
  | inr few ↦ omega (arith, few)
]

-- the least through n is that at a place
least-where : (f : ℕ → ℕ) (n : ℕ) → (l : ℕ) × (l ≤ n) × (least_through f n ≡ f l)
least-where f zero = (0, omega arith, refl)
least-where f (suc n) =
    let before = least-where f n in
    elim (cases_lt (least_through f n) (f (suc n))) [
      | inl less ↦ (before.0, omega (arith, before.1), omega (arith, less) ∙ before.2)
      | inr more ↦ (suc n, omega arith, omega (arith, more))
    ]

halves : (y p x g : ℕ) → 2 * y ≤ x → x * p ≤ g → y * (2 * p) ≤ g
halves y p x g less low = let half = mul-le (2 * y) p x p less (omega arith) in omega (arith, half, low)

-- behind gaps below a power of two, the low width one below it takes no more than any from it on
wide-weight : (w l gap : ℕ) → gap < 2 ^ suc w → suc w ≤ l → width_weight w gap ≤ width_weight l gap
wide-weight w l gap below wide =
    let p = 2 ^ w in
    let some : 0 < p = pow_pos w in
    let x = 1024 * gap / p in
    let double : 2 ^ suc w ≡ 2 * p = pow-succ' 2 w in
    let low : x * p ≤ 1024 * gap = div-mul-le_self (1024 * gap) p in
    let small : x < 2048 = elim (cases_lt x 2048) [
      | inl less ↦ less
      | inr over ↦ let many = mul-le 2048 p x p over (omega arith) in absurd (omega (arith, many, low, below, double))
    ] in
    elim (cases_lt (suc w) l) [
      | inl more ↦ omega (arith, small, more)
      | inr at ↦
          let same : suc w ≡ l = omega (arith, at, wide) in
          let even : (x - 1024) * (2 * p) ≤ 1024 * gap = halves (x - 1024) p x (1024 * gap) (omega (arith, small)) low in
          let next : x - 1024 ≤ 1024 * gap / 2 ^ suc w = le-div (x - 1024) (1024 * gap) (2 ^ suc w) (pow_pos (suc w)) (subst (λ (z : ℕ). (x - 1024) * z ≤ 1024 * gap) (sym double) even) in
          subst (λ (z : ℕ). width_weight w gap ≤ width_weight z gap) same (omega (arith, next))
    ]

-- a bitmap has a bit for each place
bitmap-long : (u m : ℕ) → u ≤ bitmap_payload u m
unfolding bitmap_payload
bitmap-long u m = omega arith

module _ (xs : List ℕ) (up : IsStrictlyIncreasing xs) (w : ℕ) (narrow : (j : ℕ) → j < length xs → gap_at xs j < 2 ^ suc w) where
  -- and so do the numbers of a part
  wide-weights : (l i d : ℕ) → suc w ≤ l → i + d ≤ length xs → weights_to w xs (i + d) + weights_to l xs i ≤ weights_to w xs i + weights_to l xs (i + d)
  wide-weights l i zero wide fit =
      let place : i ≡ i + 0 = omega arith in
      subst (λ (x : ℕ). weights_to w xs x + weights_to l xs i ≤ weights_to w xs i + weights_to l xs x) place (omega arith)
  wide-weights l i (suc d) wide fit =
      let before = wide-weights l i d wide (omega (arith, fit)) in
      let one = wide-weight w l (gap_at xs (i + d)) (narrow (i + d) (omega (arith, fit))) wide in
      let place : suc (i + d) ≡ i + suc d = omega arith in
      subst (λ (x : ℕ). weights_to w xs x + weights_to l xs i ≤ weights_to w xs i + weights_to l xs x) place (omega (arith, before, one))

  -- an Elias-Fano part costs no less than the line of some low width
  ef-below : (charge i e : ℕ) → 10 ≤ charge → i < e → e ≤ length xs → (k : ℕ) × (k < suc w) × (1024 * (charge - 10) + weights_to k xs e ≤ weights_to k xs i + 1024 * (charge + ef_payload (universe xs i e) (e - i)))
  unfolding ef_payload
  ef-below charge i e some a fit =
      let u = universe xs i e in
      let m = e - i in
      let far = rises xs up i e (omega (arith, a)) fit in
      let best = least-where (ef_bits_at u m) widest_low in
      let l = best.0 in
      let place : i + m ≡ e = omega (arith, a) in
      let line : weights_to l xs e ≤ weights_to l xs i + (1024 * (l + 1) + 72) * m + 1024 * u / 2 ^ l = subst (λ (x : ℕ). weights_to l xs x ≤ weights_to l xs i + (1024 * (l + 1) + 72) * m + 1024 * (past xs x - past xs i) / 2 ^ l) place (weights-of-part xs up l i m (omega (arith, place, fit))) in
      let high = zeros u (2 ^ l) (pow_pos l) in
      let sample = samples m in
      let under : 1024 * (charge - 10) + weights_to l xs e ≤ weights_to l xs i + 1024 * (charge + (least_through (ef_bits_at u m) widest_low + (m - 1) / 128 * digits (3 * m))) = omega (arith, line, high, sample, best.2, some) in
      elim (cases_lt l (suc w)) [
        | inl narrow_one ↦ (l, narrow_one, under)
        | inr wide ↦
            let less = subst (λ (x : ℕ). weights_to w xs x + weights_to l xs i ≤ weights_to w xs i + weights_to l xs x) place (wide-weights l i m wide (omega (arith, place, fit))) in
            (w, omega arith, omega (arith, under, less))
      ]

  -- A part costs no less than a line: it takes all places, or it is under the line of bitmaps, or under that of a low width.
  pub part-below : (charge i e : ℕ) → 10 ≤ charge → i < e → e ≤ length xs
      → (past xs e ≡ past xs i + (e - i)) ⊎ ((1024 * charge + 1024 * past xs e ≤ 1024 * past xs i + 1024 * cost_of_part charge xs i e) ⊎ ((k : ℕ) × (k < suc w) × (1024 * (charge - 10) + weights_to k xs e ≤ weights_to k xs i + 1024 * cost_of_part charge xs i e)))
  part-below charge i e some a fit =
      let u = universe xs i e in
      let m = e - i in
      let far = rises xs up i e (omega (arith, a)) fit in
      elim (cases_eq m u) [
        | inl full ↦ inl (omega (arith, full, far))
        | inr apart ↦
            let packed : payload u m ≡ min (ef_payload u m) (bitmap_payload u m) = payload-packed u m apart in
            elim (cases_lt (bitmap_payload u m) (ef_payload u m)) [
              | inl bits ↦ inr (inl (omega (arith, packed, bits, bitmap-long u m, far)))
              | inr ef ↦ inr (inr (let one = ef-below charge i e some a fit in (one.0, one.1, omega (arith, one.2, packed, ef))))
            ]
      ]
