use Rattle.std.specs.Prelude.{◌≡◌, ℕ, ◌^◌, ◌<◌, IsTrue, List, Some}
use Rattle.std.specs.List.{All}
use Rattle.collection_model.specs.FormatNumbers.{FormatNumbers}
use Rattle.collection_model.specs.Bytes.{word_bytes}
use Rattle.collection_model.specs.Collection.{Collection, WellFormed}
use Rattle.collection_model.specs.Spelling.{spelled}
use Rattle.io_traits.specs.declared.fail.Slot.{Slot}
use Rattle.io_traits.specs.declared.fail.Slot.TheVariants.{Index}
use Rattle.io_traits.specs.DepotState.{DepotState}
use Rattle.collection_reader.specs.declared.fault.Fault.{Fault}
use Rattle.collection_reader.specs.FirstFault.{IsFirstFault}
use Rattle.collection_reader.specs.ReadCollection.{files_at}

-- This well-formed collection stands under the base, as far as the depot tells: where it tells its
-- bytes, they are those of its files.
pub record FindsCollection (format : FormatNumbers) (base : List ℕ) (depot : DepotState)
    (c : Collection) : Type 0 where
  pub well_formed : WellFormed format c
  pub files : IsTrue depot.tells → files_at depot base ≡ spelled c

-- The files under the base are no collection's, and this is their first fault.
abbrev pub HasFault : FormatNumbers → List ℕ → DepotState → Fault → Type 0
HasFault format base depot fault = IsFirstFault format (files_at depot base) (Some fault)

-- the slot from which an index is read
abbrev pub IsIndexSlot : Slot → Type 0
IsIndexSlot slot = slot ≡ Index

-- the most bytes of an index file
abbrev pub most_bytes : ℕ
most_bytes = 2 ^ 40

-- The bytes are those of these words of 64 bits.
pub record AreOfWords (bytes words : List ℕ) : Type 0 where
  pub fit : All (λ w. w < 2 ^ 64) words
  pub bytes_are : bytes ≡ word_bytes words
