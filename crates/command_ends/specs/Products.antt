-- What a command makes, and all that is known of its run by that and by what it reads.
use Rattle.std.specs.Prelude.{◌≡◌, ◌⊎◌, Bool, true, false}
use Rattle.io_traits.specs.declared.fail.Slot.{Slot}
use Rattle.io_traits.specs.declared.fail.Slot.TheVariants.{Index}
use Rattle.io_traits.specs.DepotState.{OnlyReads}
use Rattle.collection_reader.specs.ReadCollection.{IsCollectionSlot}
use Rattle.outcomes.specs.Outside.{Outside, NoCallFailed}
use Rattle.outcomes.specs.Outcome.{Outcome, done}
use Rattle.outcomes.specs.Ends.{OrNoMemory, OrTooLarge}
use Rattle.command_ends.specs.AnsweredText.{MustAnswer}
use Rattle.command_ends.specs.WrittenFile.{WritesOnlyAccepted}
use Rattle.command_ends.specs.Sources.{Source, Nothing, CollectionAt, Accepts, EndsAt, Finds, ReadsFrom, Refuses, Stands}

-- what a command makes: replies to the lines of the input, a text on out, the file of a slot, or
-- the three files of a collection
pub data Product : Type 0 where
  Replies : Product
  Text : Product
  File : (slot : Slot) → Product
  Files : Product

-- whether the depot is called where it is made of a source
abbrev pub calls_depot : Source → Product → Bool
calls_depot Nothing Replies = false
calls_depot Nothing Text = false
calls_depot source product = true

-- whether the input is read for it
abbrev pub reads_input : Product → Bool
reads_input Replies = true
reads_input product = false

-- whether it is printed on out
abbrev pub prints : Product → Bool
prints Replies = true
prints Text = true
prints product = false

-- the slots of the files that are written
abbrev pub WritesTo : Product → Slot → Type 0
WritesTo (File slot) = λ written. written ≡ slot
WritesTo Files = IsCollectionSlot
WritesTo product = λ slot. ⊥

-- whether the words of an index are built for it, which may be too many
abbrev pub builds_words : Source → Product → Bool
builds_words Nothing product = true
builds_words (CollectionAt format base) product = true
builds_words source (File Index) = true
builds_words source product = false

-- All is done, or memory was refused, or the words that were to be built are too many.
abbrev pub IsComplete : Bool → Outcome → Type 0
IsComplete true outcome = OrTooLarge done outcome
IsComplete false outcome = OrNoMemory done outcome

-- Where what is read stands there and no call fails, all is done, but for want of memory or of
-- room; of replies also but for the limit of the text.
abbrev pub Completes : Source → Product → Outside → Outside → Outcome → Type 0
Completes source Replies old new outcome = MustAnswer (Finds source old.depot) old new outcome
Completes source product old new outcome =
    Stands source old.depot → NoCallFailed old new
    → IsComplete (builds_words source product) outcome

-- Files are only started and read, or are also written once what is read is accepted.
abbrev pub Touches : Source → Product → Outside → Outside → Outcome → Type 0
Touches source (File slot) old new outcome =
    WritesOnlyAccepted (ReadsFrom source) (WritesTo (File slot)) (Accepts source old.depot)
    old new outcome
Touches source Files old new outcome =
    WritesOnlyAccepted (ReadsFrom source) (WritesTo Files) (Accepts source old.depot)
    old new outcome
Touches source product old new outcome = OnlyReads (ReadsFrom source) old.depot new.depot

-- What a run does that reads a source and makes a product of it: it ends at the reading, or makes
-- the product as `Makes` says, and ends so.
pub record Does (source : Source) (product : Product) (Makes : Outside → Outside → Outcome → Type 0)
    (old new : Outside) (outcome : Outcome) : Type 0 where
  pub ends : EndsAt source old.depot outcome ⊎ Makes old new outcome
  pub refuses : Refuses source old.depot outcome
  pub complete : Completes source product old new outcome
  pub depot : Touches source product old new outcome
