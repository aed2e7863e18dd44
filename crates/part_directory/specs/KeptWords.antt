use Rattle.std.specs.Prelude.{ℕ, ◌-◌, nat_le, if◌then◌else◌, List}
use Rattle.part_cost.specs.Payload.{kind_of}
use Rattle.part_cost.specs.Span.{past, universe}
use Rattle.part_codec.specs.KeptWords.{words_kept}

-- how many of so many words of marks, from a number on, are kept by the part from i to j of a
-- sequence: by its kind those that lie whole in it, and none where the number lies before it
abbrev pub words_kept_by_part : List ℕ → ℕ → ℕ → ℕ → ℕ → ℕ
words_kept_by_part xs i j first most =
    if nat_le (past xs i) first
    then words_kept (kind_of (universe xs i j) (j - i)) (past xs j) first most else 0
