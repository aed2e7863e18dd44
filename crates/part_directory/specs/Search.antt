-- What is known where the first of some parts is looked for whose last value is at least a number.
use Rattle.std.specs.Prelude.{ℕ, ◌<◌, ◌≤◌, List, length, slice_index}

-- the part behind those that are looked at is such a part, or the end
pub record IsBehind (lasts : List ℕ) (x high : ℕ) : Type 0 where
  -- it is no later than the end
  pub within : high ≤ length lasts
  -- where it is a part, its last value is at least x
  pub reached : high < length lasts → x ≤ slice_index lasts high
