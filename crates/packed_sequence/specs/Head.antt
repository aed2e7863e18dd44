use Rattle.std.specs.Prelude.{◌≡◌, ℕ, ◌+◌, List, slice_index}
use Rattle.bit_words.specs.Bits.{field_at}
use Rattle.part_cost.specs.Payload.{digits}
use Rattle.packed_sequence.specs.declared.last_field.LastField.{LastField}
use Rattle.packed_sequence.specs.declared.view.Head.{Head}
use Rattle.packed_sequence.specs.declared.view.Head.TheVariants.{Parts, Alone}

-- What stands at the head of a sequence of m values at a place: a flag, and the field behind it.
abbrev pub IsHead : List ℕ → ℕ → ℕ → LastField → Head → Type 0
IsHead bits at m last (Parts parts) = (slice_index bits at ≡ 1)
    × (parts ≡ field_at bits (at + 1) (digits m))
IsHead bits at m last (Alone field) = (slice_index bits at ≡ 0)
    × (field ≡ field_at bits (at + 1) last.width)
