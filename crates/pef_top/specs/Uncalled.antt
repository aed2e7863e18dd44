use Rattle.std.specs.Prelude.{◌≡◌, IsTrue, Option, Some, None, Bool, false, not}
use Rattle.pef_top.specs.Names.{DepotState, Command, Devices, Outcome, is_refusal}
use Rattle.command_ends.specs.Sources as source
use Rattle.command_ends.specs.Products as product
use Rattle.pef_top.specs.SourceAndProduct.{product_of, source_of}

-- whether a command calls the depot
abbrev pub calls_depot : Option Command → Bool
calls_depot None = false
calls_depot (Some command) = product.calls_depot (source_of command) (product_of command)

-- whether it reads the input
abbrev pub reads_input : Option Command → Bool
reads_input None = false
reads_input (Some command) = product.reads_input (product_of command)

-- whether it prints on out
abbrev pub prints : Option Command → Bool
prints None = false
prints (Some command) = product.prints (product_of command)

-- What a command reads is accepted.
abbrev pub Accepts : Option Command → DepotState → Type 0
Accepts None depot = ⊥
Accepts (Some command) depot = source.Accepts (source_of command) depot

-- Neither the input nor out was called.
pub record IsSilent {D I O : Type 0} (old new : Devices D I O) : Type 0 where
  pub input : new.input ≡ old.input
  pub out : new.out ≡ old.out

-- What is not called is the same object: what the command has no use for, and the input and out of
-- a run that is refused or accepts nothing.
pub record LeavesUncalled {D I O : Type 0} (command : Option Command) (accepted : Type 0)
    (outcome : Outcome) (old new : Devices D I O) : Type 0 where
  pub depot : IsTrue (not (calls_depot command)) → new.depot ≡ old.depot
  pub input : IsTrue (not (reads_input command)) → new.input ≡ old.input
  pub out : IsTrue (not (prints command)) → new.out ≡ old.out
  pub refused : IsTrue (is_refusal outcome) → IsSilent old new
  pub unaccepted : ¬ accepted → IsSilent old new
