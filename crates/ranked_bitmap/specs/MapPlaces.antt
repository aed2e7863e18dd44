use Rattle.std.specs.Prelude.{◌≡◌, ℕ, ◌+◌, ◌-◌, ◌*◌, ◌/◌, ◌<◌, ◌≤◌, List}
use Rattle.bit_words.specs.Bits.{field_at, ones_between}
use Rattle.part_cost.specs.Payload.{digits}

-- how many bits m numbers in universe u take, with a sample after each run of so many places
abbrev pub map_length : ℕ → ℕ → ℕ → ℕ
map_length spacing u m = u + (u - 1) / spacing * digits m

-- sample j, from 0 on, behind the bits of the places
abbrev pub sample_at : List ℕ → ℕ → ℕ → ℕ → ℕ → ℕ
sample_at bits place u m j = field_at bits (place + u + digits m * j) (digits m)

-- Each sample is the number of ones before its place.
abbrev pub AreSampled : ℕ → List ℕ → ℕ → ℕ → ℕ → Type 0
AreSampled spacing bits place u m =
    (j : ℕ) → j < (u - 1) / spacing
    → sample_at bits place u m j ≡ ones_between bits place (place + spacing * (j + 1))

-- a place of a part, counted from its start, below which so many of its numbers lie, and these are
-- k at most
pub record IsRanked (bits : List ℕ) (place u k at below : ℕ) : Type 0 where
  pub within : at < u
  pub rank : below ≡ ones_between bits place (place + at)
  pub few : below ≤ k
