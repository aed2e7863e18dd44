-- Files under names that were made of a base.
use Rattle.std.proofs.Common.{◌≡◌, ℕ, List, [], ◌∷◌, ◌++◌}
use Rattle.std.specs.Prelude.{codes, string_bytes}
use Rattle.collection_model.specs.Spelling.{Files}
use Rattle.command_model.specs.FoundMap.{files_under}
use Rattle.remapped_files.specs.declared.names.FileNames.{FileNames}
use Rattle.remapped_files.specs.NamedFiles.{files_named}

pub named-under : (names : FileNames) (base : List ℕ) (files : Files) → string_bytes names.docs ≡ base ++ codes ".docs" → string_bytes names.freqs ≡ base ++ codes ".freqs"
    → string_bytes names.sizes ≡ base ++ codes ".sizes" → files_named names files ≡ files_under base files
named-under names base files d f s = λ i.
    record { name = d i; bytes = files.docs } ∷ record { name = f i; bytes = files.freqs } ∷ record { name = s i; bytes = files.sizes } ∷ []
