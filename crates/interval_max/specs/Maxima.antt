-- The bounds of a list.
use Rattle.std.specs.Prelude.{ℕ, ◌*◌, nat_lt, Bool}
use Rattle.interval_max.specs.Bytes.{byte_at}
use Rattle.interval_max.specs.declared.maxima.Bounds.{Bounds}

-- the bound of a list's frequencies in interval v, 0 exactly where it has no document there
abbrev pub bound_of : Bounds → ℕ → ℕ
bound_of b v = byte_at b.each.now b.pairs.now v * b.step

-- whether bounds are of a list
abbrev pub are_known : Bounds → Bool
are_known b = nat_lt 0 b.step
