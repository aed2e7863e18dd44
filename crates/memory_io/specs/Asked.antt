use Rattle.std.specs.Prelude.{ℕ, List, map, string_bytes}
use Rattle.memory_io.specs.declared.asked.Asked.{Asked}
use Rattle.io_traits.specs.Starting.{Starting}

-- the names that were asked
abbrev pub names_asked : Asked → List (List ℕ)
names_asked asked = map string_bytes asked.names.items

-- what is known of the starts of a slot that were counted so, and asked so
abbrev pub starting : ℕ → Asked → Starting
starting count asked = record { count = count; told = asked.told; names = names_asked asked }
