use Rattle.std.specs.Prelude.{◌≡◌, ℕ, ◌+◌, ◌-◌, Bool, if◌then◌else◌, Some, None, List, [], ◌∷◌, ◌++◌, length, slice_range}
use Rattle.bit_words.specs.Bits.{field_bits}
use Rattle.collection_model.specs.Collection.{Posting, greatest, greatest_freq}
use Rattle.collection_model.specs.Sequences.{steps_from}
use Rattle.part_cost.specs.Payload.{digits}
use Rattle.packed_list.specs.declared.check.Found.{Found}
use Rattle.packed_sequence.specs.declared.last_field.LastField.{LastField}
use Rattle.packed_sequence.specs.SequenceBits.{sequence_bits}
use Rattle.packed_list.specs.ListBits.{docs_bits, freqs_bits, list_bits, IsCutInto}
use Rattle.packed_sequence.specs.SequencePlaces.{IsSequenceBefore}

-- such a sequence, with the place behind its bits and, where it is asked for, its greatest step
pub record IsFound (last : LastField) (m bound : ℕ) (with_steps : Bool) (bits : List ℕ) (at end : ℕ)
    (found : Found) : Type 0 where
  pub values : List ℕ
  pub ends : List ℕ
  pub sequence : IsSequenceBefore last m bound bits at end values ends
  pub behind : found.behind ≡ at + length (sequence_bits last at values ends)
  pub step : found.greatest ≡ (if with_steps then Some (greatest (steps_from 0 values)) else None)

-- the bits of a list over n documents behind its head
abbrev pub tail_bits : ℕ → ℕ → List Posting → List ℕ → List ℕ → List ℕ
tail_bits n at [] doc_ends freq_ends = []
tail_bits n at (p ∷ []) doc_ends freq_ends = field_bits (digits (n - 1)) p.doc
tail_bits n at (p ∷ q ∷ list) doc_ends freq_ends =
    docs ++ freqs_bits (at + length docs) (p ∷ q ∷ list) freq_ends
  where
    docs : List ℕ
    docs = docs_bits n at (p ∷ q ∷ list) doc_ends

-- The bits between two places are those, behind its head, of a list of m postings over n documents
-- with this greatest frequency, in these parts.
pub record IsTailBetween (n m most : ℕ) (bits : List ℕ) (at to : ℕ) (list : List Posting)
    (doc_ends freq_ends : List ℕ) : Type 0 where
  pub cut : IsCutInto n list doc_ends freq_ends
  pub count : length list ≡ m
  pub greatest_is : greatest_freq list ≡ most
  pub stands : slice_range bits at to ≡ tail_bits n at list doc_ends freq_ends

-- The bits between two places are those of a list over n documents in these parts.
pub record IsListBetween (n : ℕ) (bits : List ℕ) (from to : ℕ) (list : List Posting)
    (doc_ends freq_ends : List ℕ) : Type 0 where
  pub cut : IsCutInto n list doc_ends freq_ends
  pub stands : slice_range bits from to ≡ list_bits n from list doc_ends freq_ends

-- They are those of some list in some parts.
abbrev pub HoldsList : ℕ → List ℕ → ℕ → ℕ → Type 0
HoldsList n bits from to = (list : List Posting) × (doc_ends : List ℕ) × (freq_ends : List ℕ)
    × IsListBetween n bits from to list doc_ends freq_ends

-- They are those of some such list behind its head.
abbrev pub HoldsTail : ℕ → ℕ → ℕ → List ℕ → ℕ → ℕ → Type 0
HoldsTail n m most bits at to = (list : List Posting) × (doc_ends : List ℕ) × (freq_ends : List ℕ)
    × IsTailBetween n m most bits at to list doc_ends freq_ends
