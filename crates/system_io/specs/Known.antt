use Rattle.std.specs.Prelude.{◌≡◌, ◌↔◌, ◌⊎◌, List, Contains}
use Rattle.system_io.specs.declared.started.FileId.{FileId}

-- The files that are known now are those that were known before, and one, known before or not.
abbrev pub IsOneMore : List FileId → List FileId → Type 0
IsOneMore old new = (file : FileId)
    × ((other : FileId) → Contains new other ↔ (Contains old other ⊎ (other ≡ file)))
