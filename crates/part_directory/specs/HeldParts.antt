use Rattle.std.specs.Prelude.{◌≡◌, ℕ, ◌+◌, ◌-◌, ◌^◌, ◌≤◌, ◌<◌, List, length, slice_index, Option, Some, None}
use Rattle.std.specs.List.{All}
use Rattle.collection_model.specs.FormatNumbers.{FormatNumbers}
use Rattle.part_cost.specs.Payload.{widest_low}
use Rattle.part_cost.specs.Span.{past}
use Rattle.part_cost.specs.Stored.{IsFirstAtLeast}
use Rattle.part_codec.specs.PartView.{Holds, universe_of, count_of}
use Rattle.bit_words.specs.Bits.{bits_of}
use Rattle.part_cost.specs.Stored.{HoldsPart}
use Rattle.part_cost.specs.declared.placed.PlacedPart.{PlacedPart}
use Rattle.part_codec.specs.PartBits.{part_bits}
use Rattle.part_directory.specs.declared.part.Part.{Part}
use Rattle.part_directory.specs.declared.held.HeldPart.{HeldPart}
use Rattle.sequence_words.specs.SequenceFault.{stated_last, stated_end, end_before, stated_universe}
use Rattle.sequence_words.specs.SequenceView.{sequence_stated}
use Rattle.sequence_words.specs.SequenceParts.{counted_from, Restores}

-- What entry q of the directory states of a part of these values, and where its bits stand: those
-- of its values, counted from the number that lies before the last as far as their universe
-- reaches.
pub record IsStatedPart (format : FormatNumbers) (words xs : List ℕ) (q : ℕ) (part : Part)
    (placed : PlacedPart) : Type 0 where
  pub from : part.from ≡ end_before format words q
  pub to : part.to ≡ stated_end format words q
  pub last : part.last ≡ stated_last format words q
  pub u : part.u ≡ stated_universe format words q
  pub before : placed.u ≤ part.u
  pub whole : 2 ≤ placed.m → placed.u ≡ part.u
  pub count : placed.m ≡ part.to - part.from
  pub held : HoldsPart part_bits (bits_of placed.bits.words.now) placed.place placed.u placed.m
      (counted_from (part.last + 1 - placed.u) xs part.from part.to)
  pub restored : Restores xs part.from part.to (part.last + 1 - placed.u)

-- The view of a part that is held has these values from its start up to its end, counted from a
-- number: one past the value before them, or, of one value alone, the value.
pub record HoldsValues (held : HeldPart) (xs : List ℕ) : Type 0 where
  pub in_range : All (λ x. x < 2 ^ widest_low) xs
  pub within : held.part.to ≤ length xs
  pub few : length xs < 2 ^ 32
  pub before : past xs held.part.from ≤ held.past
  pub whole : 2 ≤ held.part.to - held.part.from → held.past ≡ past xs held.part.from
  pub start : past xs held.part.from + held.part.u ≡ held.part.last + 1
  pub small : held.part.last < 2 ^ widest_low
  pub above : held.past ≤ held.part.last
  pub u : universe_of held.view ≡ held.part.last + 1 - held.past
  pub m : count_of held.view ≡ held.part.to - held.part.from
  pub numbers : Holds held.view (counted_from held.past xs held.part.from held.part.to)
  pub restored : Restores xs held.part.from held.part.to held.past

-- A part that is held is one of so many in the sequence with which the words begin.
pub record IsHeldPart (format : FormatNumbers) (words : List ℕ) (parts : ℕ) (held : HeldPart)
    : Type 0 where
  pub within : held.index < parts
  pub from : held.part.from ≡ end_before format words held.index
  pub to : held.part.to ≡ stated_end format words held.index
  pub last : held.part.last ≡ stated_last format words held.index
  pub universe_of_part : held.part.u ≡ stated_universe format words held.index
  pub values : HoldsValues held (sequence_stated format words parts).values

-- A place lies in the part that is held, and the value is that there; or it is the end, and none is
-- held.
abbrev pub LiesIn : FormatNumbers → List ℕ → ℕ → ℕ → Option HeldPart → ℕ → Type 0
LiesIn format words parts place (Some held) value =
    IsHeldPart format words parts held × (held.part.from ≤ place) × (place < held.part.to)
    × (value ≡ slice_index (sequence_stated format words parts).values place)
LiesIn format words parts place None value =
    place ≡ length (sequence_stated format words parts).values

-- a value of the part that is held, the first of the sequence from a place on that is no less
pub record IsValueBehind (held : HeldPart) (xs : List ℕ) (from value : ℕ) : Type 0 where
  pub place : ℕ
  pub first : IsFirstAtLeast xs from value place
  pub before : place < held.part.to
  pub value_there : value ≡ slice_index xs place

-- The value stands in the part that is held, at a place or behind it; where no part is held, the
-- place is the end.
abbrev pub StandsBehind : Option HeldPart → List ℕ → ℕ → ℕ → Type 0
StandsBehind (Some held) xs from value = IsValueBehind held xs from value
StandsBehind None xs from value = from ≡ length xs
