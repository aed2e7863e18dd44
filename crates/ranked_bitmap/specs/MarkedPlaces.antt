use Rattle.std.specs.Prelude.{◌≡◌, ℕ, ◌+◌, ◌<◌, ◌==◌, List}
use Rattle.std.specs.Int.{bit_at}
use Rattle.collection_model.specs.Marks.{has_number}

-- Bit k of a word tells whether some numbers have one and k more.
abbrev pub MarksPlaces : List ℕ → ℕ → ℕ → Type 0
MarksPlaces numbers first word = (k : ℕ) → k < 64
    → has_number (first + k) numbers ≡ (bit_at word k == 1)
