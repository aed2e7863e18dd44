use Rattle.std.specs.Prelude.{◌≡◌, ◌≢◌, ℕ, Bool, List, [], Some, Vec, String, string_bytes, bytes_eq, option_map, unwrap_or, slice_get}
use Rattle.std.specs.List.{position}
use Rattle.std.specs.declared.alloc.Global.{Global}
use Rattle.memory_io.specs.InMemory.{file_in}

-- whether a file has this name
abbrev pub has_name : List ℕ → String Global × Vec ℕ Global → Bool
has_name name file = bytes_eq (string_bytes file.0) name

-- the name of the file at a place
abbrev pub name_at : List (String Global × Vec ℕ Global) → ℕ → List ℕ
name_at files at = unwrap_or (option_map (λ file. string_bytes file.0) (slice_get files at)) []

-- No file before this place has its name.
abbrev pub IsFirst : List (String Global × Vec ℕ Global) → ℕ → Type 0
IsFirst files at = position (has_name (name_at files at)) files ≡ Some at

-- The first file of this name stands at this place and has these bytes; all others have theirs.
pub record Puts (old new : List (String Global × Vec ℕ Global)) (at : ℕ) (name bytes : List ℕ)
    : Type 0 where
  pub named : name_at new at ≡ name
  pub first : IsFirst new at
  pub file : file_in new name ≡ Some bytes
  pub others : (other : List ℕ) → other ≢ name → file_in new other ≡ file_in old other
