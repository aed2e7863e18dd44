use Rattle.std.proofs.Common.{◌≡◌, ℕ, zero, suc, ◌+◌, ◌-◌, ◌<◌, ◌≤◌, List, [], ◌∷◌, length, take, drop, get_or, refl, sym, ap, ◌∙◌, arith, sum}
use Rattle.std.proofs.lemmas.List.Sums.{sum_by_more}
use Rattle.std.proofs.lemmas.List.{get_or-drop, length-drop}
use Rattle.bit_words.specs.Bits.{field_at, ones_between}
use Rattle.bit_words.proofs.Value.{EachBit}

pub bit-below : (bits : List ℕ) (q : ℕ) → EachBit bits → get_or bits q 0 < 2
bit-below [] q h = omega arith
bit-below (b ∷ bits) zero h = h.0
bit-below (b ∷ bits) (suc q) h = bit-below bits q h.1

-- a field of one bit is that bit
pub field-one : (bits : List ℕ) (at : ℕ) → field_at bits at 1 ≡ get_or bits at 0
field-one [] zero = refl
field-one [] (suc at) = refl
field-one (b ∷ bits) zero = omega arith
field-one (b ∷ bits) (suc at) = field-one bits at

-- one more bit of a range
pub ones_between-more : (bits : List ℕ) (from p : ℕ) → from ≤ p → p < length bits → ones_between bits from (p + 1) ≡ ones_between bits from p + field_at bits p 1
ones_between-more bits from p h w =
    ap (λ n. sum (take n (drop from bits))) (let e : p + 1 - from ≡ p - from + 1 = omega arith in e)
    ∙ sum_by_more (λ b. b) (drop from bits) (p - from) 0 (omega (arith, length-drop from bits))
    ∙ ap (λ v. sum (take (p - from) (drop from bits)) + v)
    (get_or-drop from bits (p - from) 0 ∙ ap (λ i. get_or bits i 0) (let e : from + (p - from) ≡ p = omega arith in e) ∙ sym (field-one bits p))
