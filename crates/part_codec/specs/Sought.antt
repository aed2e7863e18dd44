use Rattle.std.specs.Prelude.{◌≡◌, ℕ, ◌≤◌, List, slice_index}
use Rattle.part_cost.specs.Stored.{IsFirstAtLeast}
use Rattle.part_codec.specs.declared.views.Sought.{Sought}

-- the first number at or behind number k that is at least x, and a place at or before its own with
-- the number there
pub record IsSought (ys : List ℕ) (k x : ℕ) (sought : Sought) : Type 0 where
  pub own : ℕ
  pub first : IsFirstAtLeast ys k x own
  pub number : sought.number ≡ slice_index ys own
  pub after : k ≤ sought.place
  pub before : sought.place ≤ own
  pub there : sought.there ≡ slice_index ys sought.place
