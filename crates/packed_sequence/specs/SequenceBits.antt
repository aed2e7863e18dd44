use Rattle.std.specs.Prelude.{◌≡◌, ℕ, ◌+◌, ◌-◌, ◌*◌, ◌^◌, ◌<◌, ◌≤◌, List, [], ◌∷◌, ◌++◌, length, replicate}
use Rattle.std.specs.List.{All}
use Rattle.std.specs.List.Sorted.{IsStrictlyIncreasing}
use Rattle.bit_words.specs.Bits.{field_bits, bits_of, padding}
use Rattle.collection_model.specs.FormatNumbers.{format_three}
use Rattle.part_cost.specs.Payload.{digits}
use Rattle.part_cost.specs.Partition.{IsPartition}
use Rattle.part_cost.specs.Span.{past}
use Rattle.part_codec.specs.PartBits.{part_bits}
use Rattle.two_level.specs.SequenceWords.{sequence_words}
use Rattle.packed_sequence.specs.declared.last_field.LastField.{LastField}

-- the last document of a list over n documents
abbrev pub last_doc : ℕ → LastField
last_doc n = record { less = 0; width = digits (n - 1) }

-- the last sum of m frequencies, less one, of which none is 0 and none is above g
abbrev pub last_sum : ℕ → ℕ → LastField
last_sum m g = record { less = m - 1; width = digits (m * (g - 1)) }

-- the bits of a sequence that stands as one part: a zero, its last value, and the bits of the part
abbrev pub lone_part_bits : LastField → List ℕ → List ℕ
lone_part_bits last xs =
    0 ∷ field_bits last.width (past xs (length xs) - 1 - last.less)
    ++ part_bits xs (past xs (length xs))

-- the bits of a sequence in several parts, the first of them at a place: a one, the number of
-- parts, and from the next word on the words of the sequence
abbrev pub parted_bits : ℕ → List ℕ → List ℕ → List ℕ
parted_bits at xs ends =
    1 ∷ field_bits (digits (length xs)) (length ends)
    ++ replicate (padding (at + 1 + digits (length xs))) 0
    ++ bits_of (sequence_words format_three xs ends)

-- the bits of a sequence in its parts
abbrev pub sequence_bits : LastField → ℕ → List ℕ → List ℕ → List ℕ
sequence_bits last at xs [] = []
sequence_bits last at xs (end ∷ []) = lone_part_bits last xs
sequence_bits last at xs (end ∷ next ∷ ends) = parted_bits at xs (end ∷ next ∷ ends)

-- a sequence of m values in parts, whose last value has room in its field where it is one part
pub record IsStored (last : LastField) (m : ℕ) (xs ends : List ℕ) : Type 0 where
  pub rising : IsStrictlyIncreasing xs
  pub below : All (λ x. x < format_three.most_sum) xs
  pub count : length xs ≡ m
  pub partition : IsPartition m ends
  pub less : length ends ≡ 1 → last.less ≤ past xs m - 1
  pub fits : length ends ≡ 1 → past xs m - 1 - last.less < 2 ^ last.width
