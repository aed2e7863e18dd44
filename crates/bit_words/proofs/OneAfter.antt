use Rattle.std.proofs.Common.{◌≡◌, ℕ, suc, ◌+◌, ◌*◌, ◌^◌, ◌<◌, ◌≤◌, List, [], ◌∷◌, ◌++◌, length, take, replicate, sym, ap, subst, ◌∙◌, arith, append_assoc}
use Rattle.std.proofs.lemmas.Nat.{pow_pos}
use Rattle.std.proofs.lemmas.List.{length-append, length-replicate, replicate-append-replicate, take-append-le, take-replicate, take_all}
use Rattle.std.proofs.Math.Nat.{mod-eq_of_lt}
use Rattle.bit_words.specs.Bits.{AppendsBits, field_bits, bits_of, bits_value, one_after, HoldNumber}
use Rattle.bit_words.proofs.Value.{value-append, value-field_bits, value-below, bits-append, bits-bits_of, bits-field_bits, length-bits_of, length-field_bits, same_bits, two_pow-suc}
use Rattle.bit_words.proofs.Writing.{value-zeros, bits-zeros}

-- a field of nothing but zeros
pub zeros-field : (n : ℕ) → field_bits n 0 ≡ replicate n 0
zeros-field n =
    same_bits (field_bits n 0) (replicate n 0) (bits-field_bits n 0) (bits-zeros n)
    (length-field_bits n 0 ∙ sym (length-replicate {A = ℕ} n 0))
    (value-field_bits n 0 ∙ mod-eq_of_lt (pow_pos n) ∙ sym (value-zeros n))

power-below : (n : ℕ) → 2 ^ n < 2 ^ (n + 1)
power-below n =
    let twice : 2 ^ (n + 1) ≡ 2 * 2 ^ n = ap (λ k. 2 ^ k) (let e : n + 1 ≡ suc n = omega arith in e) ∙ two_pow-suc n in
    omega (arith, pow_pos n, twice)

-- a field with nothing but its highest bit set
pub one-field : (n : ℕ) → field_bits (n + 1) (2 ^ n) ≡ one_after n
one-field n =
    let zeros : List ℕ = replicate n 0 in
    same_bits (field_bits (n + 1) (2 ^ n)) (zeros ++ 1 ∷ []) (bits-field_bits (n + 1) (2 ^ n)) (bits-append zeros (1 ∷ []) (bits-zeros n) (omega arith, tt))
    (omega (arith, length-field_bits (n + 1) (2 ^ n), length-append zeros (1 ∷ []), length-replicate {A = ℕ} n 0))
    (value-field_bits (n + 1) (2 ^ n) ∙ mod-eq_of_lt (power-below n)
    ∙ sym (value-append zeros (1 ∷ [])
    ∙ ap (λ k. bits_value zeros + 2 ^ k * bits_value (1 ∷ [])) (length-replicate {A = ℕ} n 0)
    ∙ ap (λ v. v + 2 ^ n * 1) (value-zeros n) ∙ omega arith))

-- one more word of zeros
pub zeros-more : (old to : List ℕ) (i : ℕ) → to ≡ old ++ replicate (64 * i) 0 → to ++ field_bits 64 0 ≡ old ++ replicate (64 * (i + 1)) 0
zeros-more old to i e =
    ap (λ xs. xs ++ field_bits 64 0) e ∙ append_assoc old (replicate (64 * i) 0) (field_bits 64 0)
    ∙ ap (λ xs. old ++ (replicate (64 * i) 0 ++ xs)) (zeros-field 64)
    ∙ ap (λ xs. old ++ xs) (replicate-append-replicate (64 * i) 64 0 ∙ ap (λ n. replicate n 0) (let e : 64 * i + 64 ≡ 64 * (i + 1) = omega arith in e))

-- behind the whole words of zeros, the others and the one
pub one-after : (old to : List ℕ) (n i rest : ℕ) → 64 * i + rest ≡ n → to ≡ old ++ replicate (64 * i) 0
    → to ++ field_bits (rest + 1) (2 ^ rest) ≡ old ++ one_after n
one-after old to n i rest e is =
    let whole : List ℕ = replicate (64 * i) 0 in
    let zeros : List ℕ = replicate rest 0 in
    let together : whole ++ zeros ≡ replicate n 0 = replicate-append-replicate {A = ℕ} (64 * i) rest 0 ∙ ap (λ k. replicate {A = ℕ} k 0) e in
    let behind : whole ++ field_bits (rest + 1) (2 ^ rest) ≡ one_after n =
    ap (λ xs. whole ++ xs) (one-field rest) ∙ sym (append_assoc whole zeros (1 ∷ [])) ∙ ap (λ xs. xs ++ 1 ∷ []) together in
    ap (λ xs. xs ++ field_bits (rest + 1) (2 ^ rest)) is ∙ append_assoc old whole (field_bits (rest + 1) (2 ^ rest)) ∙ ap (λ xs. old ++ xs) behind

-- some of the zeros are a prefix
pub zeros-prefix : (old to : List ℕ) (zeros i : ℕ) → 64 * i ≤ zeros → to ≡ old ++ replicate (64 * i) 0 → AppendsBits old to (one_after zeros)
zeros-prefix old to zeros i h e =
    let all : List ℕ = replicate zeros 0 in
    let count : length all ≡ zeros = length-replicate {A = ℕ} zeros 0 in (
      64 * i,
      omega (arith, count, length-append all (1 ∷ [])),
      e ∙ ap (λ xs. old ++ xs) (sym (take-append-le (64 * i) all (1 ∷ []) (omega arith) ∙ take-replicate (64 * i) zeros 0 h)),
    )

-- words hold the number that all their bits are
pub held-whole : (ws : List ℕ) (len : ℕ) → len ≡ 64 * length ws → HoldNumber ws len
held-whole ws len e = record {
  count = omega arith;
  below = let b = value-below (bits_of ws) (bits-bits_of ws) in subst (λ n. bits_value (bits_of ws) < 2 ^ n) (length-bits_of ws ∙ sym e) b;
}

pub view-whole : (ws : List ℕ) (len : ℕ) → len ≡ 64 * length ws → take len (bits_of ws) ≡ bits_of ws
view-whole ws len e = take_all len (bits_of ws) (omega (arith, length-bits_of ws))
