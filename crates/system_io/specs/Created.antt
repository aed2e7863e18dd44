use Rattle.std.specs.Prelude.{◌≡◌, ⊤, List, Option, Some, IfSome, Contains}
use Rattle.std.specs.Path.{path_buf_bytes}
use Rattle.system_io.specs.Replaced.{IsTemporaryOf}
use Rattle.system_io.specs.declared.started.FileId.{FileId}
use Rattle.system_io.specs.declared.standard.Created.{Created}
use Rattle.system_io.specs.declared.standard.Created.TheVariants.{InPlace, Beside}

-- the open file of what is created
abbrev pub file_of : {R F D : Type 0} → Created R F D → F
file_of (InPlace file id) = file
file_of (Beside replacement id) = replacement.file

-- the same with another open file
abbrev pub with_file : {R F D : Type 0} → Created R F D → F → Created R F D
with_file (InPlace file id) other = InPlace other id
with_file (Beside replacement id) other = Beside (record replacement { file = other }) id

-- What was created stays, and only its open file goes on.
abbrev pub StaysCreated : {R F D : Type 0} → Created R F D → Created R F D → Type 0
StaysCreated old new = new ≡ with_file old (file_of new)

-- What is written beside its target is written under a temporary name of that.
abbrev pub IsBesideTarget : {R F D : Type 0} → Created R F D → Type 0
IsBesideTarget (InPlace file id) = ⊤
IsBesideTarget (Beside replacement id) =
    IsTemporaryOf (path_buf_bytes replacement.target) (path_buf_bytes replacement.temporary)

-- the file that stood under the name of what is created, where there was one
abbrev pub stood : {R F D : Type 0} → Created R F D → Option FileId
stood (InPlace file id) = Some id
stood (Beside replacement id) = id

-- What is created stands under the name of none of these files.
abbrev pub Spares : {R F D : Type 0} → Created R F D → List FileId → Type 0
Spares made known = IfSome (stood made) (λ file. Contains known file → ⊥)
