use Rattle.std.specs.Prelude.{◌⊎◌, List, Err, Ok}
use Rattle.io_traits.specs.declared.fail.Slot.{Slot}
use Rattle.io_traits.specs.Calls.{Rose}
use Rattle.collection_reader.specs.ReadCollection.{IsCollectionSlot}
use Rattle.collection_reader.specs.Starting.{turn}
use Rattle.command_model.specs.Written.{IsUnwritten}
use Rattle.command_model.specs.FilesWritten.{NamedFile, AreWritten, StopsAtFile, FileLeftByFault}
use Rattle.outcomes.specs.Outside.{Outside}
use Rattle.outcomes.specs.declared.stop.Stop.TheVariants.{WriteFault, NoMemory}
use Rattle.outcomes.specs.Outcome.{Outcome}

-- A run writes the three files of a collection, of which OnFiles tells, one after the other,
-- and ends so. A failed write names its file.
-- Want of memory may come before the first is begun, and behind that only of the depot.
abbrev pub WritesFiles : ((List NamedFile → Type 0) → Type 0) → Outside → Outside → Outcome → Type 0
WritesFiles OnFiles old new (Ok u) = OnFiles (λ files. AreWritten files old.depot new.depot)
WritesFiles OnFiles old new (Err (WriteFault slot)) =
    IsCollectionSlot slot
    × OnFiles (λ files.
    StopsAtFile files (turn slot) old.depot new.depot
    × FileLeftByFault files (turn slot) old.depot new.depot)
WritesFiles OnFiles old new (Err NoMemory) =
    IsUnwritten old.depot new.depot
    ⊎ (Rose old.depot.refusals new.depot.refusals
    × OnFiles (λ files.
    (slot : Slot) × IsCollectionSlot slot × StopsAtFile files (turn slot) old.depot new.depot))
WritesFiles OnFiles old new outcome = ⊥
