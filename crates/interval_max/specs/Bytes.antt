-- The bytes that bound the frequencies of a list.
use Rattle.std.specs.Prelude.{◌≡◌, ℕ, ◌+◌, ◌*◌, ◌==◌, Bool, List, [], ◌∷◌, cond, max, length}
use Rattle.std.specs.Prelude.{slice_index}
use Rattle.std.specs.Int.{div_ceil}
use Rattle.std.specs.List.{sum_by}
use Rattle.collection_model.specs.Collection.{Posting, greatest_freq}
use Rattle.interval_max.specs.Intervals.{greatest_in}

-- of pairs that each tell how many intervals lie between the one before and its own, and its byte,
-- the byte of interval v, 0 where none has it; `from` is the first interval that is left
abbrev pub paired_byte : ℕ → List (ℕ × ℕ) → ℕ → ℕ
paired_byte from [] v = 0
paired_byte from (p ∷ pairs) v =
    cond (from + p.0 == v) p.1 0 + paired_byte (from + p.0 + 1) pairs v

-- the first interval behind the last pair
abbrev pub reach : List (ℕ × ℕ) → ℕ
reach pairs = sum_by (λ p. p.0 + 1) pairs

-- bytes two by two
abbrev pub pairs_in : List ℕ → List (ℕ × ℕ)
pairs_in [] = []
pairs_in (far ∷ []) = []
pairs_in (far ∷ byte ∷ bytes) = (far, byte) ∷ pairs_in bytes

-- Bytes are pairs, and no byte is left.
abbrev pub ArePairs : List ℕ → Type 0
ArePairs bytes = length bytes ≡ 2 * length (pairs_in bytes)

-- the byte of interval v: it stands at its place among the bytes of all intervals, or in a pair
abbrev pub byte_at : List ℕ → List ℕ → ℕ → ℕ
byte_at each pairs v = slice_index each v + paired_byte 0 (pairs_in pairs) v

-- the byte of interval v in the bytes of a list, in one of these forms
abbrev pub byte_in : Bool → List ℕ → ℕ → ℕ
byte_in is_each bytes v = cond is_each (slice_index bytes v) (paired_byte 0 (pairs_in bytes) v)

-- what a byte of a list counts in: the least number, not 0, of which 255 reach the list's greatest
-- frequency
abbrev pub step_of : List Posting → ℕ
step_of list = max (div_ceil (greatest_freq list) 255) 1

-- the greatest frequency of a list in interval v, rounded up to whole steps
abbrev pub rounded_up : List Posting → ℕ → ℕ
rounded_up list v = div_ceil (greatest_in list v) (step_of list) * step_of list
