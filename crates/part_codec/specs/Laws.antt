use Rattle.std.specs.Prelude.{◌≡◌, ℕ, ◌≤◌, ◌^◌, List, length}
use Rattle.bit_words.specs.Bits.{AreBits}
use Rattle.part_cost.specs.Payload.{widest_low, payload}
use Rattle.part_cost.specs.Span.{AreRelative}
use Rattle.part_cost.specs.Stored.{HoldsPart}
use Rattle.part_codec.specs.PartBits.{part_bits}
use Rattle.part_codec.specs.PartValues.{values_at}

-- The bits of a part are bits.
abbrev pub PartIsBits : Type 0
PartIsBits = (u : ℕ) (ys : List ℕ) → AreBits (part_bits ys u)

-- There are as many as the part's payload says.
abbrev pub TakesItsPayload : Type 0
TakesItsPayload = (u m : ℕ) (ys : List ℕ) → u ≤ 2 ^ widest_low → AreRelative u m ys
    → length (part_bits ys u) ≡ payload u m

-- Bits at a place are those of one list of relative values at most.
abbrev pub OneListAtPlace : Type 0
OneListAtPlace = (bits : List ℕ) (place u m : ℕ) (xs ys : List ℕ)
    → HoldsPart part_bits bits place u m xs → HoldsPart part_bits bits place u m ys → xs ≡ ys

-- The values at a place are those whose bits stand there.
abbrev pub ValuesStandAt : Type 0
ValuesStandAt = (bits : List ℕ) (place u m : ℕ) (ys : List ℕ)
    → HoldsPart part_bits bits place u m ys → values_at bits place u m ≡ ys
