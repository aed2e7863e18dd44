use Rattle.std.specs.Prelude.{Option, Some, None}
use Rattle.pef_top.specs.Names.{DepotState, Command, Outcome}
use Rattle.command_ends.specs.Sources as source
use Rattle.pef_top.specs.SourceAndProduct.{source_of}

-- What a run starts: nothing where its words are no command.
abbrev pub Starts : Option Command → Outcome → DepotState → DepotState → Type 0
Starts None = source.Starts source.Nothing
Starts (Some command) = source.Starts (source_of command)
