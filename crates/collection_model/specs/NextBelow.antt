use Rattle.std.specs.Prelude.{◌≡◌, ℕ, ◌+◌, ◌<◌, ◌≤◌, List, length, slice_index}

-- The next numbers from a place on stand at the head of others, each below x: so many, as many as
-- there are and have room.
pub record AreNextBelow (numbers : List ℕ) (from x : ℕ) (given : List ℕ) (count : ℕ) : Type 0 where
  pub room : count ≤ length given
  pub within : from + count ≤ length numbers
  pub same : (j : ℕ) → j < count → slice_index given j ≡ slice_index numbers (from + j)
  pub below : (j : ℕ) → j < count → slice_index numbers (from + j) < x
  pub full : count < length given → from + count < length numbers
      → x ≤ slice_index numbers (from + count)
