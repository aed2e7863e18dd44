use Rattle.std.specs.Prelude.{ℕ, List, slice_range}
use Rattle.collection_model.specs.Collection.{greatest}
use Rattle.collection_model.specs.Sequences.{steps_from}
use Rattle.part_cost.specs.Span.{past}

-- how far a value from one place up to another lies past the one before it, at most
abbrev pub greatest_step : List ℕ → ℕ → ℕ → ℕ
greatest_step xs from to = greatest (steps_from (past xs from) (slice_range xs from to))
