use Rattle.std.specs.Prelude.{◌≡◌, ℕ, ◌+◌, List}
use Rattle.part_codec.specs.declared.views.PartView.{PartView}
use Rattle.part_codec.specs.PartView.{Holds, count_of}
use Rattle.index_file.specs.PackedAt.{packed_terms, starts_stated}

-- The view is that of the directory of a packed file.
pub record IsDirectory (words : List ℕ) (view : PartView) : Type 0 where
  pub held : Holds view (starts_stated words)
  pub count : count_of view ≡ packed_terms words + 1
