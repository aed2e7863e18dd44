use Rattle.std.specs.Prelude.{ℕ, ◌<◌, ◌≤◌}

-- A cut lies between two places, and the parts on both sides of it are allowed.
pub record IsAllowedCut (limit : ℕ) (cost : ℕ → ℕ → ℕ) (start end cut : ℕ) : Type 0 where
  pub after : start < cut
  pub before : cut < end
  pub first : cost start cut ≤ limit
  pub second : cost cut end ≤ limit
