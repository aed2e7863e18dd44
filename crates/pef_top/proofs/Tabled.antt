-- A command ends as the table of outcomes says.
use Rattle.std.proofs.Common.{arith, inl, inr, Some, Err}
use Rattle.pef_top.proofs.Names.{DepotState, Command, Query, Outside, NoMemory, Outcome, Performs, product_of, source_of, Source, CollectionAt, IndexAt, SideAt, MapAt, IndexesAt, EndsAt, FileFault}
use Rattle.pef_top.specs.MayEnd.{MayEnd, MayEndAt, MayMake}
use Rattle.pef_top.proofs.Made.{Makes, does_of}

-- what comes of a source
at_source : (source : Source) (depot : DepotState) (outcome : Outcome) → EndsAt source depot outcome → MayEndAt source outcome
at_source (CollectionAt format base) depot (Err (FileFault slot)) h = h
at_source (IndexAt name) depot (Err (FileFault slot)) h = h
at_source (SideAt index side) depot (Err (FileFault slot)) h = grind arith
at_source (MapAt base map) depot (Err (FileFault slot)) h = grind arith
at_source (IndexesAt joining names) depot (Err (FileFault slot)) h = h
at_source source depot outcome h = grind arith

-- what comes of each command
made : (command : Command) (old new : Outside) (outcome : Outcome) → Makes command old.depot old new outcome → MayMake (source_of command) (product_of command) outcome
made (Query index plan) old new (Err NoMemory) h = tt
made command old new (Err NoMemory) h = tt
made command old new outcome h = grind arith

pub may_end : (command : Command) (old new : Outside) (outcome : Outcome) → Performs (Some command) old new outcome → MayEnd command outcome
may_end command old new outcome h = elim (does_of command old new outcome h).ends [
  | inl at ↦ inl (at_source (source_of command) old.depot outcome at)
  | inr makes ↦ inr (made command old new outcome makes)
]
