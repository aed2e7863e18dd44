use Rattle.std.specs.Prelude.{◌≡◌, ℕ, ◌+◌, ◌-◌, ◌*◌, ◌/◌, ◌%◌, ◌^◌, ◌<◌, ◌≤◌, List, [], ◌∷◌, ◌++◌, map, length, take, drop, replicate, sum, flat_map, slice_index, slice_range}
use Rattle.std.specs.Int.{bit_at}
use Rattle.std.specs.Int.Bits.{bit_xor}
use Rattle.std.specs.List.{All, range_with_len}

-- the lowest bits of a value, the lowest first
abbrev pub field_bits : ℕ → ℕ → List ℕ
field_bits width value = map (λ i. bit_at value i) (range_with_len 0 width)

-- words as a list of bits: bit p is bit p mod 64 of word p div 64
abbrev pub bits_of : List ℕ → List ℕ
bits_of words = flat_map (field_bits 64) words

-- the value of some bits, the lowest first
abbrev pub bits_value : List ℕ → ℕ
bits_value [] = 0
bits_value (b ∷ bits) = b + 2 * bits_value bits

-- the value of the field of this width at this place
abbrev pub field_at : List ℕ → ℕ → ℕ → ℕ
field_at bits at width = bits_value (take width (drop at bits))

-- numbers that are bits
abbrev pub AreBits : List ℕ → Type 0
AreBits bits = All (λ b. b < 2) bits

-- how many zeros fill bits up to the end of a word
abbrev pub padding : ℕ → ℕ
padding n = (64 - n % 64) % 64

-- bits with zeros up to the end of their last word
abbrev pub padded : List ℕ → List ℕ
padded bits = bits ++ replicate (padding (length bits)) 0

-- the words whose bits these are, with zeros up to the end of the last word
abbrev pub words_of : List ℕ → List ℕ
words_of bits = map (λ i. field_at bits (64 * i) 64) (range_with_len 0 ((length bits + 63) / 64))

-- how many bits from one place up to another are 1
abbrev pub ones_between : List ℕ → ℕ → ℕ → ℕ
ones_between bits from to = sum (slice_range bits from to)

-- the first place of a range whose bit is 1
pub record IsFirstOne (bits : List ℕ) (from to p : ℕ) : Type 0 where
  pub at_or_after : from ≤ p
  pub before_end : p < to
  pub one : slice_index bits p ≡ 1
  pub first : (q : ℕ) → from ≤ q → q < p → slice_index bits q ≡ 0

-- No bit of the range is 1.
abbrev pub HasNoOne : List ℕ → ℕ → ℕ → Type 0
HasNoOne bits from to = (q : ℕ) → from ≤ q → q < to → slice_index bits q ≡ 0

-- the place of a range whose bit is 1 and before which n bits of the range are 1
pub record IsNthOne (bits : List ℕ) (from to n p : ℕ) : Type 0 where
  pub at_or_after : from ≤ p
  pub before_end : p < to
  pub one : slice_index bits p ≡ 1
  pub before : ones_between bits from p ≡ n

-- the place of a range whose bit is 1 and behind which n bits of the range are 1
pub record IsNthOneBack (bits : List ℕ) (from to n p : ℕ) : Type 0 where
  pub at_or_after : from ≤ p
  pub before_end : p < to
  pub one : slice_index bits p ≡ 1
  pub behind : ones_between bits (p + 1) to ≡ n

-- the place of a range whose bit is 0 and before which n bits of the range are 0
pub record IsNthZero (bits : List ℕ) (from to n p : ℕ) : Type 0 where
  pub at_or_after : from ≤ p
  pub before_end : p < to
  pub zero : slice_index bits p ≡ 0
  pub before : from + ones_between bits from p + n ≡ p

-- words whose bits are exchanged where this one has a 1
abbrev pub flipped : ℕ → List ℕ → List ℕ
flipped flip words = map (λ w. bit_xor w flip) words

-- The bits of word i that lie in a range stand in this value at their places, and the others are 0
-- there.
pub record IsWordWithin (bits : List ℕ) (i from to word : ℕ) : Type 0 where
  pub inside : (k : ℕ) → k < 64 → from ≤ 64 * i + k → 64 * i + k < to
      → bit_at word k ≡ slice_index bits (64 * i + k)
  pub before : (k : ℕ) → 64 * i + k < from → bit_at word k ≡ 0
  pub behind : (k : ℕ) → to ≤ 64 * i + k → bit_at word k ≡ 0

-- so many zeros and then a one
abbrev pub one_after : ℕ → List ℕ
one_after zeros = replicate zeros 0 ++ 1 ∷ []

-- The bits after are those before and a prefix of the new ones.
abbrev pub AppendsBits : List ℕ → List ℕ → List ℕ → Type 0
AppendsBits old new bits = (n : ℕ) × (n ≤ length bits) × (new ≡ old ++ take n bits)

-- as many words as so many bits take, with nothing but zeros above these bits
pub record HoldNumber (words : List ℕ) (len : ℕ) : Type 0 where
  pub count : length words ≡ (len + 63) / 64
  pub below : bits_value (bits_of words) < 2 ^ len
