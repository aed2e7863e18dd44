use Rattle.std.specs.Prelude.{◌≡◌, ◌≢◌, ◌↔◌, ℕ, List, Option, None, Some}
use Rattle.collection_model.specs.FormatNumbers.{FormatNumbers}
use Rattle.collection_model.specs.Bytes.{AreBytes}
use Rattle.collection_model.specs.Collection.{Posting, Collection, WellFormed}
use Rattle.collection_model.specs.Spelling.{Files, spelled}
use Rattle.collection_reader.specs.declared.fault.Rule.TheVariants.{C3}
use Rattle.collection_reader.specs.declared.fault.Fault.{Fault}
use Rattle.collection_reader.specs.FirstFault.{IsPrefix, head_fault, IsFirstFault}

-- files of bytes
pub record AreFilesOfBytes (files : Files) : Type 0 where
  pub docs : AreBytes files.docs
  pub freqs : AreBytes files.freqs
  pub sizes : AreBytes files.sizes

-- Files of bytes have no fault exactly where a well-formed collection spells them.
abbrev pub NoFaultMeansSpelled : FormatNumbers → Type 0
NoFaultMeansSpelled format =
    (files : Files) → AreFilesOfBytes files
    → IsFirstFault format files None ↔ ((c : Collection) × WellFormed format c
    × (files ≡ spelled c))

-- The files of a well-formed collection have no fault.
abbrev pub SpelledHasNoFault : FormatNumbers → Type 0
SpelledHasNoFault format = (c : Collection) → WellFormed format c
    → IsFirstFault format (spelled c) None

-- Files have one first fault only.
abbrev pub OneFirstFault : FormatNumbers → Type 0
OneFirstFault format = (files : Files) (f g : Option Fault) → IsFirstFault format files f
    → IsFirstFault format files g → f ≡ g

-- That there are too many documents is never the first fault, where the file of documents is of
-- bytes.
abbrev pub NeverTooManyDocuments : FormatNumbers → Type 0
NeverTooManyDocuments format = (files : Files) → AreBytes files.docs → (fault : Fault)
    → IsFirstFault format files (Some fault) → fault.rule ≢ C3

-- The head has no fault exactly where there is a prefix, where the file of documents is of bytes.
abbrev pub NoHeadFaultMeansPrefix : FormatNumbers → Type 0
NoHeadFaultMeansPrefix format =
    (files : Files) → AreBytes files.docs →
    (head_fault format files.docs ≡ None) ↔ ((n : ℕ) × (lists : List (List Posting))
    × (docs : List ℕ) × (freqs : List ℕ) × IsPrefix format files n lists docs freqs)
