use Rattle.std.proofs.Common.{◌≡◌, inl, inr, ℕ, zero, suc, ◌+◌, ◌-◌, ◌*◌, ◌/◌, ◌^◌, ◌<◌, ◌≤◌, ⊎_elim, arith}
use Rattle.std.proofs.lemmas.Nat.{leading_le, le-div, mul-le, pow_pos}
use Rattle.std.proofs.Math.Nat.{div-eq_of_lt, div-mul-le_self, add-le-add, le_trans}
use Rattle.std.proofs.lemmas.Bool.{cases_eq, cases_lt}
use lib.Count.{count_leading_zeros}
use Rattle.part_cost.specs.Laws.{OneNumberIsShort}
use Rattle.part_cost.specs.Payload.{digits, least_through, widest_low, ef_bits_at, ef_payload, bitmap_payload, payload, ef_spacing}
use Rattle.part_cost.proofs.Forms.{payload-ones, payload-packed}

-- division keeps the order
div-grows : (a b n : ℕ) → 0 < n → a ≤ b → a / n ≤ b / n
div-grows a b n some h = le-div (a / n) b n some (omega (arith, div-mul-le_self a n))

-- a greater number has no more leading zeros
zeros-fall : (k a b : ℕ) → a ≤ b → count_leading_zeros k b ≤ count_leading_zeros k a
unfolding count_leading_zeros
zeros-fall zero a b h = omega arith
zeros-fall (suc k) zero b h = leading_le (suc k) b
zeros-fall (suc k) (suc a) zero h = absurd (omega arith)
zeros-fall (suc k) (suc a) (suc b) h = zeros-fall k (suc a / 2) (suc b / 2) (omega arith)

-- a greater number has no fewer digits
pub digits-grow : (a b : ℕ) → a ≤ b → digits a ≤ digits b
digits-grow a b h = omega (arith, zeros-fall 64 a b h)

-- a sequence of numbers that is nowhere less has no less a least
least-grows : (f g : ℕ → ℕ) (n : ℕ) → ((k : ℕ) → f k ≤ g k) → least_through f n ≤ least_through g n
least-grows f g zero h = h 0
least-grows f g (suc n) h = omega (arith, least-grows f g n h, h (suc n))

-- at each low width the bits grow with both
ef-bits-grow : (u m v n l : ℕ) → u ≤ v → m ≤ n → ef_bits_at u m l ≤ ef_bits_at v n l
ef-bits-grow u m v n l hu hm =
    let low = mul-le m l n l hm (omega arith) in
    let high = div-grows (u - 1) (v - 1) (2 ^ l) (pow_pos l) (omega arith) in
    omega (arith, low, high)

ef-grows : (u m v n : ℕ) → u ≤ v → m ≤ n → ef_payload u m ≤ ef_payload v n
unfolding ef_payload
ef-grows u m v n hu hm =
    let least = least-grows (ef_bits_at u m) (ef_bits_at v n) widest_low (λ l. ef-bits-grow u m v n l hu hm) in
    let samples = mul-le ((m - 1) / 128) (digits (3 * m)) ((n - 1) / 128) (digits (3 * n)) (omega arith) (digits-grow (3 * m) (3 * n) (omega arith)) in
    add-le-add least samples

bitmap-grows : (u m v n : ℕ) → u ≤ v → m ≤ n → bitmap_payload u m ≤ bitmap_payload v n
unfolding bitmap_payload
bitmap-grows u m v n hu hm =
    let samples = mul-le ((u - 1) / 512) (digits m) ((v - 1) / 512) (digits n) (omega arith) (digits-grow m n hm) in
    omega (arith, samples)

-- the payload grows with the count, where as many places or more are left free
pub payload-grows : (u m v n : ℕ) → m ≤ u → m ≤ n → u + n ≤ v + m → payload u m ≤ payload v n
payload-grows u m v n fit more free = ⊎_elim
    (λ full. omega (arith, payload-ones u m full))
    (λ (ne : m ≡ u → ⊥).
    let wider : n ≡ v → ⊥ = λ full. ne (omega arith) in
    let ef = ef-grows u m v n (omega arith) more in
    let bitmap = bitmap-grows u m v n (omega arith) more in
    omega (arith, payload-packed u m ne, payload-packed v n wider, ef, bitmap))
    (cases_eq m u)

-- the least through n is at most what stands at n
least-last : (f : ℕ → ℕ) (n : ℕ) → least_through f n ≤ f n
least-last f zero = omega arith
least-last f (suc n) = omega arith

-- and at most what stands at any of them
pub least-at : (f : ℕ → ℕ) (n w : ℕ) → w ≤ n → least_through f n ≤ f w
least-at f zero w le = let same : w ≡ 0 = omega arith in rw same (omega arith)
least-at f (suc n) w le = elim (cases_lt n w) as (λ _. least_through f (suc n) ≤ f w) [
  | inl past ↦ (let same : w ≡ suc n = omega arith in rw same (least-last f (suc n)))
  | inr before ↦ (let less = least-at f n w before in omega (arith, less))
]

-- one number takes at most one bit more than the power of two that bounds its universe
one-ef : (w u : ℕ) → w ≤ widest_low → 1 ≤ u → u ≤ 2 ^ w → ef_payload u 1 ≤ w + 1
unfolding ef_payload
one-ef w u narrow some fit =
    let high : (u - 1) / 2 ^ w ≡ 0 = div-eq_of_lt (omega arith) in
    let last : least_through (ef_bits_at u 1) widest_low ≤ w + 1 = le_trans (least-at (ef_bits_at u 1) widest_low w narrow) (omega (arith, high)) in
    let samples : (1 - 1) / ef_spacing * digits (3 * 1) ≤ 0 = omega arith in
    omega (arith, add-le-add last samples)

pub one-number-is-short : OneNumberIsShort
one-number-is-short w u narrow some fit = ⊎_elim
    (λ full. omega (arith, payload-ones u 1 full))
    (λ (ne : 1 ≡ u → ⊥). omega (arith, payload-packed u 1 ne, one-ef w u narrow some fit))
    (cases_eq 1 u)

-- a payload is at most two bits for each place
bitmap-short : (u m : ℕ) → bitmap_payload u m ≤ 2 * u
unfolding bitmap_payload
bitmap-short u m =
    let samples = mul-le ((u - 1) / 512) (digits m) ((u - 1) / 512) 64 (omega arith) (omega arith) in
    omega (arith, samples)

pub payload-short : (u m : ℕ) → payload u m ≤ 2 * u
payload-short u m = ⊎_elim
    (λ full. omega (arith, payload-ones u m full))
    (λ (ne : m ≡ u → ⊥). omega (arith, payload-packed u m ne, bitmap-short u m))
    (cases_eq m u)
