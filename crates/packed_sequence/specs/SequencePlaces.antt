use Rattle.std.specs.Prelude.{◌≡◌, ℕ, ◌+◌, ◌*◌, ◌^◌, ◌<◌, ◌≤◌, List, length, replicate, slice_range}
use Rattle.std.specs.List.{All}
use Rattle.bit_words.specs.Bits.{field_bits, padding}
use Rattle.part_cost.specs.Payload.{digits}
use Rattle.packed_sequence.specs.declared.last_field.LastField.{LastField}
use Rattle.packed_sequence.specs.SequenceBits.{sequence_bits, IsStored}

-- The bits of a sequence of m values below a bound stand at a place of some bits, and end at
-- another place or before.
pub record IsSequenceBefore (last : LastField) (m bound : ℕ) (bits : List ℕ) (at end : ℕ)
    (xs ends : List ℕ) : Type 0 where
  pub stored : IsStored last m xs ends
  pub small : All (λ x. x < bound) xs
  pub within : at + length (sequence_bits last at xs ends) ≤ end
  pub stands : slice_range bits at (at + length (sequence_bits last at xs ends))
      ≡ sequence_bits last at xs ends

-- the first bits of a sequence of m values in several parts: their number, and then the place of
-- the word in which its words begin
pub record IsPartedHead (m : ℕ) (bits : List ℕ) (at end parts start : ℕ) : Type 0 where
  pub some : 2 ≤ parts
  pub few : parts < 2 ^ digits m
  pub number : slice_range bits (at + 1) (at + 1 + digits m) ≡ field_bits (digits m) parts
  pub word : 64 * start ≡ at + 1 + digits m + padding (at + 1 + digits m)
  pub zeros : slice_range bits (at + 1 + digits m) (64 * start)
      ≡ replicate (padding (at + 1 + digits m)) 0
  pub within : 64 * start ≤ end

-- Where the bits of a sequence of two values and more stand there is no other.
abbrev pub OneSequenceAtPlace : Type 0
OneSequenceAtPlace =
    (last : LastField) (m bound other : ℕ) (bits : List ℕ) (at end to : ℕ)
    (xs ys ends cuts : List ℕ) → 2 ≤ m → m < 2 ^ 32
    → IsSequenceBefore last m bound bits at end xs ends
    → IsSequenceBefore last m other bits at to ys cuts → (xs ≡ ys) × (ends ≡ cuts)
