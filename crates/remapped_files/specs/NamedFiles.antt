use Rattle.std.specs.Prelude.{ℕ, List, [], ◌∷◌, string_bytes}
use Rattle.collection_model.specs.Spelling.{Files}
use Rattle.io_traits.specs.declared.fail.Slot.{Slot}
use Rattle.io_traits.specs.declared.fail.Slot.TheVariants.{Docs, Freqs, Sizes}
use Rattle.command_model.specs.FilesWritten.{NamedFile}
use Rattle.remapped_files.specs.declared.names.FileNames.{FileNames}

-- the bytes of the file of a slot of a collection, and its name
abbrev pub bytes_of : Files → Slot → List ℕ
bytes_of files Docs = files.docs
bytes_of files Freqs = files.freqs
bytes_of files slot = files.sizes

abbrev pub name_of : FileNames → Slot → List ℕ
name_of names Docs = string_bytes names.docs
name_of names Freqs = string_bytes names.freqs
name_of names slot = string_bytes names.sizes

-- a file with its name
abbrev pub file_of : FileNames → Files → Slot → NamedFile
file_of names files slot = record { name = name_of names slot; bytes = bytes_of files slot }

-- the three of them
abbrev pub files_named : FileNames → Files → List NamedFile
files_named names files =
    file_of names files Docs ∷ file_of names files Freqs ∷ file_of names files Sizes ∷ []
