use Rattle.std.specs.Prelude.{ℕ, ◌+◌, ◌≤◌, ◌^◌}
use Rattle.part_cost.specs.Payload.{payload, widest_low}
use Rattle.packed_sequence.specs.declared.behind.Behind.{Behind}
use Rattle.packed_sequence.specs.declared.behind.Behind.TheVariants.{Place, Part}

-- the place behind the bits of a sequence of m values
abbrev pub place_behind : Behind → ℕ → ℕ
place_behind (Place place) m = place
place_behind (Part place universe) m = place + payload universe m

-- A part has room for m values, and its universe is in the range of payloads.
abbrev pub IsInRange : Behind → ℕ → Type 0
IsInRange (Place place) m = Unit {0}
IsInRange (Part place universe) m = (m ≤ universe) × (universe ≤ 2 ^ widest_low)
