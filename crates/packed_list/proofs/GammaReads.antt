-- What is read at the first one of some bits is a gamma code, and there is no other.
use Rattle.std.proofs.Common.{◌≡◌, ℕ, suc, ◌+◌, ◌-◌, ◌*◌, ◌^◌, ◌%◌, ◌<◌, ◌≤◌, min, List, ◌++◌, length, take, drop, get_or, sym, ap, ◌∙◌, subst, inl, inr, arith}
use Rattle.std.proofs.Math.Nat.{pow-suc}
use Rattle.std.proofs.Math.Pow.{pow_mono}
use Rattle.std.proofs.lemmas.Bool.{cases_lt}
use Rattle.bit_words.specs.Bits.{IsFirstOne, HasNoOne, field_bits, field_at, one_after}
use Rattle.bit_words.proofs.Value.{EachBit}
use Rattle.bit_words.proofs.Pieces.{StandAt, stands-from, stands-both, stands-field, field-below}
use Rattle.std.proofs.Math.Nat.{mod-eq_of_lt}
use Rattle.part_cost.specs.Payload.{digits}
use Rattle.part_cost.proofs.DigitCounts.{digits-hold, digits-are-fewest}
use Rattle.packed_list.specs.Gamma.{gamma, gamma_length, gamma_at, IsGammaBefore}
use Rattle.packed_list.proofs.GammaCodes.{some-digits, gamma-takes}
use Rattle.packed_sequence.proofs.LonePlaces.{piece-stands}
use Rattle.packed_list.proofs.GammaBack.{length-one_after, zero-of, one-of, zero-stands, one-stands, gamma-back}

-- a number whose highest digit has so many behind it
digits-are : (z f : ℕ) → z < 32 → f < 2 ^ z → digits (2 ^ z + f) ≡ z + 1
digits-are z f few fit =
    let n : ℕ = 2 ^ z + f in
    let twice : 2 ^ (z + 1) ≡ 2 * 2 ^ z = ap (λ k. 2 ^ k) (let e : z + 1 ≡ suc z = omega arith in e) ∙ (let p : 2 ^ suc z ≡ 2 ^ z * 2 = pow-suc 2 z in let e : 2 ^ suc z ≡ 2 * 2 ^ z = omega (arith, p) in e) in
    let top : 2 ^ (z + 1) ≤ 2 ^ 32 = pow_mono {i = z + 1} {j = 32} (omega (arith, few)) in
    let range : n < 2 ^ 64 = omega (arith, fit, twice, top) in
    let most = digits-are-fewest n (z + 1) range (omega (arith, fit, twice)) in
    let least : z < digits n = elim (cases_lt z (digits n)) [
      | inl less ↦ less
      | inr more ↦ absurd (let low : 2 ^ digits n ≤ 2 ^ z = pow_mono more in omega (arith, digits-hold n range, low))
    ] in
    omega (arith, most, least)

few-digits : (n : ℕ) → n < 2 ^ 32 → digits n ≤ 32
few-digits n few = digits-are-fewest n 32 (omega (arith, few)) few

-- its code
code-is : (z f : ℕ) → z < 32 → f < 2 ^ z → gamma (2 ^ z + f) ≡ one_after z ++ field_bits z f
code-is z f few fit =
    let rest : digits (2 ^ z + f) - 1 ≡ z = omega (arith, digits-are z f few fit) in
    ap (λ k. one_after k ++ field_bits k (2 ^ z + f - 2 ^ k)) rest ∙ ap (λ v. one_after z ++ field_bits z v) (let e : 2 ^ z + f - 2 ^ z ≡ f = omega arith in e)

-- the zeros up to the first one, and the one
first-stands : (bits : List ℕ) (at end z : ℕ) → IsFirstOne bits at end (at + z) → end ≤ length bits → StandAt bits at (one_after z)
first-stands bits at end z h fit =
    stands-from bits at (one_after z) (omega (arith, h.before_end, fit, length-one_after z))
    (λ i lt. elim (cases_lt i z) [
      | inl less ↦ (h.first (at + i) (omega arith) (omega (arith, less)) ∙ sym (zero-of z i less))
      | inr more ↦ (let e : i ≡ z = omega (arith, more, lt, length-one_after z) in ap (λ k. get_or bits (at + k) 0) e ∙ h.one ∙ sym (one-of z) ∙ ap (λ k. get_or (one_after z) k 0) (sym e))
    ])

-- what is read behind the first one
pub read-stands : (bits : List ℕ) (at end one z : ℕ) → EachBit bits → IsFirstOne bits at (at + min (end - at) 32) one → one ≡ at + z → at + 2 * z + 1 ≤ end → end ≤ length bits
    → IsGammaBefore bits at end (2 ^ z + field_at bits (one + 1) z)
read-stands bits at end one z each h is within fit =
    let f : ℕ = field_at bits (one + 1) z in
    let n : ℕ = 2 ^ z + f in
    let few : z < 32 = omega (arith, h.before_end, is) in
    let below : f < 2 ^ z = field-below bits (one + 1) z each in
    let count : digits n ≡ z + 1 = digits-are z f few below in
    let twice : 2 ^ (z + 1) ≡ 2 * 2 ^ z = ap (λ k. 2 ^ k) (let e : z + 1 ≡ suc z = omega arith in e) ∙ (let p : 2 ^ suc z ≡ 2 ^ z * 2 = pow-suc 2 z in let e : 2 ^ suc z ≡ 2 * 2 ^ z = omega (arith, p) in e) in
    let top : 2 ^ (z + 1) ≤ 2 ^ 32 = pow_mono {i = z + 1} {j = 32} (omega (arith, few)) in
    let some : 1 ≤ n = omega (arith, (let low : 2 ^ 0 ≤ 2 ^ z = pow_mono {i = 0} {j = z} (omega arith) in low)) in
    let first : StandAt bits at (one_after z) = first-stands bits at (at + min (end - at) 32) z (subst (IsFirstOne bits at (at + min (end - at) 32)) is h) (omega (arith, within, fit)) in
    let place : one + 1 ≡ at + length (one_after z) = omega (arith, is, length-one_after z) in
    let field : StandAt bits (one + 1) (field_bits z f) = stands-field bits (one + 1) z f each (omega (arith, is, within, fit)) (sym (mod-eq_of_lt below)) in
    let both : StandAt bits at (one_after z ++ field_bits z f) = stands-both bits at (one_after z) (field_bits z f) first (subst (λ p. StandAt bits p (field_bits z f)) place field) in
    let code : gamma n ≡ one_after z ++ field_bits z f = code-is z f few below in
    let whole : StandAt bits at (gamma n) = subst (StandAt bits at) (sym code) both in
    let long : length (gamma n) ≡ gamma_length n = gamma-takes.count n some (omega (arith, below, twice, top)) in
    record {
      some = some;
      few = omega (arith, below, twice, top);
      within = omega (arith, count, within);
      stands = ap (λ k. take k (drop at bits)) (let e : at + gamma_length n - at ≡ length (gamma n) = omega (arith, long) in e) ∙ whole;
    }

-- where a code stands the first one lies behind its zeros
pub record FirstOne (bits : List ℕ) (at end z : ℕ) : Type 0 where
  pub few : z < 32
  pub within : at + 2 * z + 1 ≤ end
  pub zeros : (k : ℕ) → k < z → get_or bits (at + k) 0 ≡ 0
  pub one : get_or bits (at + z) 0 ≡ 1

pub code-first : (bits : List ℕ) (at end n : ℕ) → IsGammaBefore bits at end n → FirstOne bits at end (digits n - 1)
code-first bits at end n h =
    let z : ℕ = digits n - 1 in
    let some = some-digits n h.some (omega (arith, h.few)) in
    let long : length (gamma n) ≡ gamma_length n = gamma-takes.count n h.some (omega (arith, h.few)) in
    let stands : StandAt bits at (gamma n) = piece-stands bits at (gamma n) (subst (λ k. take (at + k - at) (drop at bits) ≡ gamma n) (sym long) h.stands) in
    record {
      few = omega (arith, few-digits n h.few, some);
      within = omega (arith, h.within, some);
      zeros = λ k lt. zero-stands bits at z k (field_bits z (n - 2 ^ z)) stands lt;
      one = one-stands bits at z (field_bits z (n - 2 ^ z)) stands;
    }

-- no code stands where there is no one near
pub none-near : (bits : List ℕ) (at end : ℕ) → at ≤ end → HasNoOne bits at (at + min (end - at) 32) → (n : ℕ) → ¬ IsGammaBefore bits at end n
none-near bits at end le none n h =
    let first = code-first bits at end n h in
    let z : ℕ = digits n - 1 in
    let zero = none (at + z) (omega arith) (omega (arith, first.few, first.within)) in
    omega (arith, first.one, zero)

-- or where the bits end before the code does
pub none-fits : (bits : List ℕ) (at end one z : ℕ) → IsFirstOne bits at (at + min (end - at) 32) one → one ≡ at + z → end < at + 2 * z + 1 → (n : ℕ) → ¬ IsGammaBefore bits at end n
none-fits bits at end one z h is short n code =
    let first = code-first bits at end n code in
    let y : ℕ = digits n - 1 in
    elim (cases_lt y z) [
      | inl less ↦ (let zero = h.first (at + y) (omega arith) (omega (arith, less, is)) in omega (arith, first.one, zero))
      | inr more ↦ (elim (cases_lt z y) [
        | inl less ↦ (let zero = first.zeros z less in let found : get_or bits (at + z) 0 ≡ 1 = ap (λ p. get_or bits p 0) (sym is) ∙ h.one in omega (arith, zero, found))
        | inr le ↦ omega (arith, more, le, short, first.within)
      ])
    ]

-- the number that is read, as it is put together in a word
pub number-is : (z f : ℕ) → z < 32 → 1 * 2 ^ z % 18446744073709551616 + f ≡ 2 ^ z + f
number-is z f few =
    let top : 2 ^ z ≤ 2 ^ 32 = pow_mono {i = z} {j = 32} (omega (arith, few)) in
    omega (arith, mod-eq_of_lt {n = 1 * 2 ^ z} {m = 18446744073709551616} (omega (arith, top)))

-- and the place behind its code
pub behind-is : (at one z f : ℕ) → one ≡ at + z → z < 32 → f < 2 ^ z → one + 1 + z ≡ at + gamma_length (2 ^ z + f)
behind-is at one z f is few fit = omega (arith, is, digits-are z f few fit)

-- one number is read at a place
pub one-number : (bits : List ℕ) (at end to n m : ℕ) → end ≤ length bits → to ≤ length bits → IsGammaBefore bits at end n → IsGammaBefore bits at to m → n ≡ m
one-number bits at end to n m fit fits h k = sym (number bits at end n fit h) ∙ number bits at to m fits k
  where
    number : (bits : List ℕ) (at end n : ℕ) → end ≤ length bits → IsGammaBefore bits at end n → gamma_at bits at ≡ n
    number bits at end n fit h =
        let long : length (gamma n) ≡ gamma_length n = gamma-takes.count n h.some (omega (arith, h.few)) in
        let stands : StandAt bits at (gamma n) = piece-stands bits at (gamma n) (subst (λ k. take (at + k - at) (drop at bits) ≡ gamma n) (sym long) h.stands) in
        (gamma-back bits at n h.some (omega (arith, h.few)) stands (omega (arith, long, h.within, fit))).0
