use Rattle.std.specs.Prelude.{◌≡◌, ◌≢◌, ℕ, ◌<◌, ◌==◌, if◌then◌else◌, List, [], length, ◌++◌, Some, unwrap_or, codes, decimal}
use Rattle.std.specs.Path.{path_file_name, path_parent, path_with_file_name}

-- the file name of the temporary of this number
abbrev pub temporary_name : ℕ → List ℕ
temporary_name number = codes ".pefidx-" ++ decimal number

-- A temporary of the target: it is in the same folder under a name of the thousand, which is not
-- the target's own.
pub record IsTemporaryOf (target path : List ℕ) : Type 0 where
  pub number : ℕ
  pub within : number < 1000
  pub beside : path ≡ path_with_file_name target (temporary_name number)
  pub own_name : path_file_name target ≢ Some (temporary_name number)

-- the folder of a file: the present one where the path names none
abbrev pub folder_path : List ℕ → List ℕ
folder_path path = let parent = unwrap_or (path_parent path) [] in if length parent == 0 then codes "." else parent
