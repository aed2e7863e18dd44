-- Gamma codes: their bits, how many they are, and that bits begin with one only.
use Rattle.std.proofs.Common.{◌≡◌, ℕ, zero, suc, ◌-◌, ◌*◌, ◌^◌, ◌<◌, ◌≤◌, List, [], ◌∷◌, ◌++◌, drop, get_or, replicate, refl, sym, ap, ◌∙◌, inl, inr, arith, append_assoc}
use Rattle.std.proofs.Math.Nat.{pow-suc}
use Rattle.std.proofs.lemmas.Bool.{cases_lt}
use Rattle.std.proofs.lemmas.List.{length-append, length-replicate}
use Rattle.std.proofs.lemmas.List.Elements.{All-nil, All-append, All-from_recursion}
use Rattle.bit_words.specs.Bits.{AreBits, field_bits, one_after}
use Rattle.bit_words.proofs.Value.{length-field_bits}
use Rattle.bit_words.proofs.AllBits.{bits-field}
use Rattle.part_cost.specs.Payload.{digits}
use Rattle.part_cost.proofs.DigitCounts.{digits-hold, digits-are-fewest}
use Rattle.packed_list.specs.Gamma.{gamma}
use Rattle.packed_list.specs.GammaLaws.{GammaTakes, OneGamma}
use Rattle.packed_sequence.proofs.OneSequenceBits.{one-field_prefix}

-- a number from 1 on has a digit, and lies between the powers of two of its digits
pub some-digits : (n : ℕ) → 1 ≤ n → n < 2 ^ 64 → 1 ≤ digits n
some-digits n some fit = at_least (digits n) (digits-hold n fit)
  where
    at_least : (d : ℕ) → n < 2 ^ d → 1 ≤ d
    at_least zero h = absurd (omega (arith, h, some))
    at_least (suc d) h = omega arith

pub low-power : (n : ℕ) → 1 ≤ n → n < 2 ^ 64 → 2 ^ (digits n - 1) ≤ n
low-power n some fit = elim (cases_lt n (2 ^ (digits n - 1))) [
  | inl less ↦ absurd (omega (arith, digits-are-fewest n (digits n - 1) fit less, some-digits n some fit))
  | inr more ↦ more
]

pub high-power : (n : ℕ) → 1 ≤ n → n < 2 ^ 64 → n < 2 * 2 ^ (digits n - 1)
high-power n some fit =
    let is : digits n ≡ suc (digits n - 1) = omega (arith, some-digits n some fit) in
    omega (arith, digits-hold n fit, ap (λ d. 2 ^ d) is, pow-suc 2 (digits n - 1))

-- zeros and then a one stand in one way only before other bits
one-prefix : (a b : ℕ) (xs ys : List ℕ) → replicate a 0 ++ (1 ∷ xs) ≡ replicate b 0 ++ (1 ∷ ys) → (a ≡ b) × (xs ≡ ys)
one-prefix zero zero xs ys h = (refl, ap (drop 1) h)
one-prefix zero (suc b) xs ys h = absurd (let e : 1 ≡ 0 = ap (λ l. get_or l 0 0) h in omega (arith, e))
one-prefix (suc a) zero xs ys h = absurd (let e : 0 ≡ 1 = ap (λ l. get_or l 0 0) h in omega (arith, e))
one-prefix (suc a) (suc b) xs ys h = let rest = one-prefix a b xs ys (ap (drop 1) h) in (ap suc rest.0, rest.1)

-- a gamma code and bits behind it
spread : (n : ℕ) (behind : List ℕ) → gamma n ++ behind ≡ replicate (digits n - 1) 0 ++ (1 ∷ (field_bits (digits n - 1) (n - 2 ^ (digits n - 1)) ++ behind))
spread n behind =
    append_assoc (one_after (digits n - 1)) (field_bits (digits n - 1) (n - 2 ^ (digits n - 1))) behind
    ∙ append_assoc (replicate (digits n - 1) 0) (1 ∷ []) (field_bits (digits n - 1) (n - 2 ^ (digits n - 1)) ++ behind)

pub one-gamma : OneGamma
one-gamma n m behind others some fit also fits h =
    let z : ℕ = digits n - 1 in
    let split = one-prefix z (digits m - 1) _ _ (sym (spread n behind) ∙ h ∙ spread m others) in
    let same : field_bits z (n - 2 ^ z) ++ behind ≡ field_bits z (m - 2 ^ z) ++ others =
    split.1 ∙ ap (λ k. field_bits k (m - 2 ^ k) ++ others) (sym split.0) in
    let power : 2 ^ (digits m - 1) ≡ 2 ^ z = ap (λ k. 2 ^ k) (sym split.0) in
    let low = low-power n some fit in
    let high = high-power n some fit in
    let low_too = low-power m also fits in
    let high_too = high-power m also fits in
    let fields = one-field_prefix z (n - 2 ^ z) (m - 2 ^ z) behind others (omega (arith, low, high)) (omega (arith, low_too, high_too, power)) same in
    (omega (arith, fields.0, low, low_too, power), fields.1)

zeros-are-bits : (z : ℕ) → AreBits (replicate z 0)
zeros-are-bits zero = All-nil (λ b. b < 2)
zeros-are-bits (suc z) = All-append (λ b. b < 2) (0 ∷ []) (replicate z 0) (All-from_recursion (λ b. b < 2) (0 ∷ []) (let e : 0 < 2 = omega arith in e, tt)) (zeros-are-bits z)

pub gamma-takes : GammaTakes
gamma-takes = record {
  bits =
      λ n.
      All-append (λ b. b < 2) (one_after (digits n - 1)) (field_bits (digits n - 1) (n - 2 ^ (digits n - 1)))
      (All-append (λ b. b < 2) (replicate (digits n - 1) 0) (1 ∷ []) (zeros-are-bits (digits n - 1)) (All-from_recursion (λ b. b < 2) (1 ∷ []) (let e : 1 < 2 = omega arith in e, tt)))
      (bits-field (digits n - 1) (n - 2 ^ (digits n - 1)));
  count =
      λ n some fit.
      omega (
        arith,
        length-append (one_after (digits n - 1)) (field_bits (digits n - 1) (n - 2 ^ (digits n - 1))),
        length-append {A = ℕ} (replicate (digits n - 1) 0) (1 ∷ []),
        length-replicate {A = ℕ} (digits n - 1) 0,
        length-field_bits (digits n - 1) (n - 2 ^ (digits n - 1)),
        some-digits n some fit,
      );
}
