use Rattle.std.specs.Prelude.{ℕ, ◌-◌, ◌/◌, min}

-- how many words of 64 places lie whole in a universe from a place on, at most so many
abbrev pub whole_words : ℕ → ℕ → ℕ → ℕ
whole_words u from most = min most ((u - from) / 64)
