use Rattle.std.proofs.Common.{◌≡◌, ℕ, zero, suc, ◌<◌, Bool, true, false, cond, List, [], ◌∷◌, map, get_or, refl, arith}
use Rattle.std.specs.Int.{bit_at}
use Rattle.std.specs.List.{range_with_len, flat_map}
use Rattle.std.proofs.lemmas.Nat.Bits.{bit_at-lt}
use Rattle.std.proofs.lemmas.List.Elements.{All-nil, All-append, All-map}
use Rattle.bit_words.specs.Bits.{AreBits, field_bits}

-- a bit that is not 1
pub unset_bit : (n : ℕ) → n < 2 → (n ≡ 1 → ⊥) → n ≡ 0
unset_bit zero h no_one = refl
unset_bit (suc n) h no_one = absurd (no_one (omega arith))

-- the bit of a test
pub set_bit : (b : Bool) → ◌≡◌ {A = ℕ} (cond b 1 0) 1 → b ≡ true
set_bit true h = refl
set_bit false h = absurd (omega arith)

one_or_zero : (b : Bool) → cond b 1 0 < 2
one_or_zero true = omega arith
one_or_zero false = omega arith

-- the bits of a test of each number
pub bits-test : (f : ℕ → Bool) (xs : List ℕ) → AreBits (map (λ x. cond (f x) 1 0) xs)
bits-test f xs = All-map (λ b. b < 2) (λ x. cond (f x) 1 0) xs (λ k d lt. one_or_zero (f (get_or xs k d)))

-- fields are bits
pub bits-field : (width value : ℕ) → AreBits (field_bits width value)
bits-field width value = All-map (λ b. b < 2) (λ i. bit_at value i) (range_with_len 0 width) (λ k d lt. bit_at-lt value (get_or (range_with_len 0 width) k d))

pub bits-fields : (width : ℕ) (xs : List ℕ) → AreBits (flat_map (field_bits width) xs)
bits-fields width [] = All-nil (λ b. b < 2)
bits-fields width (x ∷ xs) = All-append (λ b. b < 2) (field_bits width x) (flat_map (field_bits width) xs) (bits-field width x) (bits-fields width xs)
