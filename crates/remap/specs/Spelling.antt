use Rattle.std.specs.Prelude.{ℕ, ◌<◌, ◌^◌, List, length, flat_map, Vec}
use Rattle.std.specs.List.{All}
use Rattle.std.specs.declared.alloc.Global.{Global}
use Rattle.collection_model.specs.Bytes.{number_sequence}

-- The length of each vector is a number of four bytes.
abbrev pub AreShort : List (Vec ℕ Global) → Type 0
AreShort vectors = All (λ v. length v.items < 2 ^ 32) vectors

-- a sequence for each vector
abbrev pub vectors_bytes : List (Vec ℕ Global) → List ℕ
vectors_bytes vectors = flat_map (λ v. number_sequence v.items) vectors
