use Rattle.std.proofs.Common.{◌≡◌, ℕ, zero, suc, ◌+◌, ◌-◌, ◌*◌, ◌/◌, ◌%◌, ◌^◌, ◌<◌, ◌≤◌, List, [], ◌∷◌, length, take, get_or, set, sym, ap, subst, ◌∙◌, arith, bit_and}
use Rattle.std.proofs.lemmas.Nat.{one_shl, and_mask, mod-pow-add, mod_below, pow_pos, shr_below}
use Rattle.std.proofs.lemmas.List.{length-take}
use Rattle.std.proofs.Math.Pow.{mod-mod-pow}
use Rattle.std.proofs.Math.Nat.{div-add-mod, mod-eq_of_lt, mul_comm, zero-mod}
use Rattle.bit_words.specs.Bits.{bits_of, bits_value, HoldNumber}
use Rattle.bit_words.proofs.Value.{bits-bits_of, bits-take, length-bits_of, same_bits, value-below, value-bits_of_cons, value-take}
use Rattle.bit_words.proofs.Writing.{bits-held, length-held, value-held, value-set, word-from_value}

-- the number of the first words
pub value-first_words : (n : ℕ) (ws : List ℕ) → bits_value (bits_of (take n ws)) ≡ bits_value (bits_of ws) % 2 ^ (64 * n)
value-first_words zero ws = omega arith
value-first_words (suc n) [] = sym (zero-mod (2 ^ (64 * suc n)))
value-first_words (suc n) (w ∷ ws) =
    let all : ℕ = bits_value (bits_of (w ∷ ws)) in
    let behind : ℕ = bits_value (bits_of ws) in
    let whole : all ≡ w % 2 ^ 64 + 2 ^ 64 * behind = value-bits_of_cons w ws in
    let rest : all / 2 ^ 64 ≡ behind = omega arith in
    let first : all % 2 ^ 64 ≡ w % 2 ^ 64 = omega arith in
    value-bits_of_cons w (take n ws)
    ∙ ap (λ v. w % 2 ^ 64 + 2 ^ 64 * v) (value-first_words n ws)
    ∙ sym (ap (λ k. all % 2 ^ k) (let e : 64 * suc n ≡ 64 * n + 64 = omega arith in e)
    ∙ mod-pow-add all (64 * n) 64
    ∙ ap (λ v. v % 2 ^ (64 * n) * 2 ^ 64 + all % 2 ^ 64) rest
    ∙ (let e : behind % 2 ^ (64 * n) * 2 ^ 64 + all % 2 ^ 64 ≡ w % 2 ^ 64 + 2 ^ 64 * (behind % 2 ^ (64 * n)) = omega arith in e))

-- the number of words whose last one is cut to its lowest bits
pub value-last_cut : (ws : List ℕ) (i used : ℕ) → i + 1 ≡ length ws → used < 64 → get_or ws i 0 < 2 ^ 64
    → bits_value (bits_of (set ws i (get_or ws i 0 % 2 ^ used))) ≡ bits_value (bits_of ws) % 2 ^ (used + 64 * i)
value-last_cut ws i used last h fits =
    let w : ℕ = get_or ws i 0 in
    let p : ℕ = 2 ^ (64 * i) in
    let v : ℕ = bits_value (bits_of ws) in
    let size : length (bits_of ws) ≡ 64 + 64 * i = omega (arith, length-bits_of ws) in
    let below : v < 2 ^ (64 + 64 * i) = subst (λ n. v < 2 ^ n) size (value-below (bits_of ws) (bits-bits_of ws)) in
    let high : v / p ≡ w = sym (mod-eq_of_lt (shr_below v 64 (64 * i) below)) ∙ word-from_value ws i fits in
    let split : p * w + v % p ≡ v = sym (ap (λ k. p * k + v % p) high) ∙ div-add-mod v p in
    let small : w % 2 ^ used < 2 ^ 64 = omega (arith, mod_le w (2 ^ used)) in
    let replaced = value-set ws i (w % 2 ^ used) (omega arith) fits small in
    let cut : v % 2 ^ (used + 64 * i) ≡ p * (w % 2 ^ used) + v % p =
    mod-pow-add v used (64 * i) ∙ ap (λ k. k % 2 ^ used * p + v % p) high ∙ ap (λ k. k + v % p) (mul_comm (w % 2 ^ used) p) in
    omega arith
  where
    mod_le : (n m : ℕ) → n % m ≤ n
    mod_le n m = omega arith

-- a longer prefix, cut again
pub value-cut_again : (v len longer : ℕ) → len ≤ longer → v % 2 ^ longer % 2 ^ len ≡ v % 2 ^ len
value-cut_again v len longer h =
    ap (λ k. v % 2 ^ k % 2 ^ len) (let e : longer ≡ longer - len + len = omega arith in e) ∙ mod-mod-pow v (longer - len) len

-- words that are cut where the last one is begun
pub value-cut : (ws xs : List ℕ) (len i word : ℕ) → xs ≡ take ((len + 63) / 64) ws → len ≤ 64 * length ws → 0 < len % 64 → i + 1 ≡ length xs → get_or xs i 0 < 2 ^ 64 → word ≡ get_or xs i 0
    → bits_value (bits_of (set xs i (bit_and word (1 * 2 ^ (len % 64) % 2 ^ 64 - 1)))) ≡ bits_value (bits_of ws) % 2 ^ len
value-cut ws xs len i word prefix h some last fits is =
    let n : ℕ = (len + 63) / 64 in
    let used : ℕ = len % 64 in
    let few : used < 64 = omega arith in
    let count : i + 1 ≡ n = omega (arith, ap length prefix, length-take n ws) in
    let place : used + 64 * i ≡ len = omega arith in
    let masked : bit_and word (1 * 2 ^ used % 2 ^ 64 - 1) ≡ get_or xs i 0 % 2 ^ used =
    ap (λ m. bit_and word (m - 1)) (one_shl used 64 few) ∙ and_mask word used ∙ ap (λ v. v % 2 ^ used) is in
    ap (λ v. bits_value (bits_of (set xs i v))) masked
    ∙ value-last_cut xs i used last few fits
    ∙ ap (λ k. bits_value (bits_of xs) % 2 ^ k) place
    ∙ ap (λ ys. bits_value (bits_of ys) % 2 ^ len) prefix
    ∙ ap (λ v. v % 2 ^ len) (value-first_words n ws)
    ∙ value-cut_again (bits_value (bits_of ws)) len (64 * n) (omega arith)

-- where the cut ends with a word, the words before it are all that is left
pub value-cut_whole : (ws xs : List ℕ) (len : ℕ) → xs ≡ take ((len + 63) / 64) ws → len % 64 ≡ 0 → bits_value (bits_of xs) ≡ bits_value (bits_of ws) % 2 ^ len
value-cut_whole ws xs len prefix whole =
    let place : 64 * ((len + 63) / 64) ≡ len = omega arith in
    ap (λ ys. bits_value (bits_of ys)) prefix ∙ value-first_words ((len + 63) / 64) ws ∙ ap (λ k. bits_value (bits_of ws) % 2 ^ k) place

-- what holds the number of the first bits
pub held-cut : (ws new : List ℕ) (len : ℕ) → length new ≡ (len + 63) / 64 → bits_value (bits_of new) ≡ bits_value (bits_of ws) % 2 ^ len → HoldNumber new len
held-cut ws new len count v = record {
  count = count;
  below = subst (λ n. n < 2 ^ len) (sym v) (mod_below (bits_value (bits_of ws)) (2 ^ len) (pow_pos len));
}

pub view-cut : (ws new : List ℕ) (old len : ℕ) → HoldNumber ws old → len ≤ old → length new ≡ (len + 63) / 64 → bits_value (bits_of new) ≡ bits_value (bits_of ws) % 2 ^ len
    → take len (bits_of new) ≡ take len (take old (bits_of ws))
view-cut ws new old len h less count v =
    let held : HoldNumber new len = held-cut ws new len count v in
    let bits : List ℕ = take old (bits_of ws) in
    same_bits (take len (bits_of new)) (take len bits) (bits-held new len) (bits-take len bits (bits-held ws old))
    (omega (arith, length-held new len held, length-held ws old h, length-take len bits))
    (value-held new len held ∙ v ∙ sym (value-take len bits (bits-held ws old) ∙ ap (λ n. n % 2 ^ len) (value-held ws old h)))
