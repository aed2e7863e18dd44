-- A gamma code is read back where it stands.
use Rattle.std.proofs.Common.{◌≡◌, ℕ, ◌+◌, ◌-◌, ◌^◌, ◌<◌, ◌≤◌, List, [], ◌∷◌, ◌++◌, length, drop, get_or, replicate, sym, ap, ◌∙◌, arith}
use Rattle.std.specs.Prelude.{◌==◌}
use Rattle.std.proofs.Math.Nat.{mod-eq_of_lt}
use Rattle.std.proofs.lemmas.List.{length-append, length-replicate, length-drop, get_or-drop, get_or-replicate, get_or_append_left, get_or-append_right}
use Rattle.std.proofs.lemmas.List.Sums.{position_or_len_is}
use Rattle.bit_words.specs.Bits.{field_bits, field_at, one_after}
use Rattle.bit_words.proofs.Value.{length-field_bits}
use Rattle.bit_words.proofs.Pieces.{StandAt, stands-second, stands-at, field-stands}
use Rattle.part_cost.specs.Payload.{digits}
use Rattle.packed_list.specs.Gamma.{gamma, gamma_at, behind_gamma, zeros_at}
use Rattle.packed_list.specs.GammaLaws.{GammaReadsBack}
use Rattle.packed_list.proofs.GammaCodes.{low-power, high-power}
use Rattle.packed_sequence.proofs.LonePlaces.{piece-stands}

pub length-one_after : (z : ℕ) → length (one_after z) ≡ z + 1
length-one_after z = omega (arith, length-append {A = ℕ} (replicate z 0) (1 ∷ []), length-replicate {A = ℕ} z 0)

-- the bits of so many zeros and a one, and then with others behind them
pub zero-of : (z k : ℕ) → k < z → get_or (one_after z) k 0 ≡ 0
zero-of z k lt = get_or_append_left (replicate z 0) (1 ∷ []) 0 k (omega (arith, lt, length-replicate {A = ℕ} z 0)) ∙ get_or-replicate z k 0 0 lt

pub one-of : (z : ℕ) → get_or (one_after z) z 0 ≡ 1
one-of z =
    get_or-append_right (replicate z 0) (1 ∷ []) z z 0 (length-replicate {A = ℕ} z 0) (omega arith)
    ∙ ap (λ k. get_or (1 ∷ []) k 0) (let e : z - z ≡ 0 = omega arith in e)

zero-bit : (z k : ℕ) (rest : List ℕ) → k < z → get_or (one_after z ++ rest) k 0 ≡ 0
zero-bit z k rest lt = get_or_append_left (one_after z) rest 0 k (omega (arith, lt, length-one_after z)) ∙ zero-of z k lt

one-bit : (z : ℕ) (rest : List ℕ) → get_or (one_after z ++ rest) z 0 ≡ 1
one-bit z rest = get_or_append_left (one_after z) rest 0 z (omega (arith, length-one_after z)) ∙ one-of z

-- and where they stand
pub zero-stands : (bits : List ℕ) (at z k : ℕ) (rest : List ℕ) → StandAt bits at (one_after z ++ rest) → k < z → get_or bits (at + k) 0 ≡ 0
zero-stands bits at z k rest h lt =
    stands-at bits at (one_after z ++ rest) k h (omega (arith, lt, length-append (one_after z) rest, length-one_after z)) ∙ zero-bit z k rest lt

pub one-stands : (bits : List ℕ) (at z : ℕ) (rest : List ℕ) → StandAt bits at (one_after z ++ rest) → get_or bits (at + z) 0 ≡ 1
one-stands bits at z rest h = stands-at bits at (one_after z ++ rest) z h (omega (arith, length-append (one_after z) rest, length-one_after z)) ∙ one-bit z rest

-- so many zeros stand before the first one
pub zeros-stand : (bits : List ℕ) (at z : ℕ) (rest : List ℕ) → StandAt bits at (one_after z ++ rest) → at + length (one_after z ++ rest) ≤ length bits → zeros_at bits at ≡ z
zeros-stand bits at z rest h fit =
    let piece : List ℕ = one_after z ++ rest in
    let long : z + 1 ≤ length piece = omega (arith, length-append (one_after z) rest, length-one_after z) in
    let is = position_or_len_is (λ b. b == 1) (drop at bits) z 0 (omega (arith, length-drop at bits, fit, long))
    (λ k lt. (let e : get_or (drop at bits) k 0 ≡ 0 = get_or-drop at bits k 0 ∙ zero-stands bits at z k rest h lt in ap (λ b. b == 1) e))
    (λ lt. (let e : get_or (drop at bits) z 0 ≡ 1 = get_or-drop at bits z 0 ∙ one-stands bits at z rest h in ap (λ b. b == 1) e)) in
    omega (arith, is)

pub gamma-back : (bits : List ℕ) (at n : ℕ) → 1 ≤ n → n < 2 ^ 64 → StandAt bits at (gamma n) → at + length (gamma n) ≤ length bits
    → (gamma_at bits at ≡ n) × (behind_gamma bits at ≡ at + length (gamma n))
gamma-back bits at n some few h fit =
    let z : ℕ = digits n - 1 in
    let v : ℕ = n - 2 ^ z in
    let zeros : zeros_at bits at ≡ z = zeros-stand bits at z (field_bits z v) h fit in
    let low = low-power n some few in
    let high = high-power n some few in
    let field : StandAt bits (at + length (one_after z)) (field_bits z v) = stands-second bits at (one_after z) (field_bits z v) h in
    let place : at + length (one_after z) ≡ at + z + 1 = omega (arith, length-one_after z) in
    let value : field_at bits (at + z + 1) z ≡ v = ap (λ j. field_at bits j z) (sym place) ∙ field-stands bits (at + length (one_after z)) z v field ∙ mod-eq_of_lt (omega (arith, low, high)) in
    let number : 2 ^ z + field_at bits (at + z + 1) z ≡ n = omega (arith, value, low) in (
      ap (λ j. 2 ^ j + field_at bits (at + j + 1) j) zeros ∙ number,
      omega (arith, zeros, length-append (one_after z) (field_bits z v), length-one_after z, length-field_bits z v),
    )

pub gamma-reads-back : GammaReadsBack
gamma-reads-back bits at n some few fit h = gamma-back bits at n some few (piece-stands bits at (gamma n) h) fit
