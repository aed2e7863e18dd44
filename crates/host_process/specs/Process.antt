use Rattle.std.specs.Prelude.{◌≡◌, ℕ, Result, Ok, Err, String, Vec}
use Rattle.std.specs.declared.alloc.Global.{Global}
use Rattle.no_memory.specs.declared.NoMemory.{NoMemory}
use Rattle.io_traits.specs.SinkState.{SinkState}
use Rattle.command_line.specs.Command.{command_of, texts}
use Rattle.command_ends.specs.declared.devices.Devices.{Devices}
use Rattle.outcomes.specs.declared.status.Status.{Status}
use Rattle.outcomes.specs.declared.status.Status.TheVariants as status
use Rattle.outcomes.specs.ErrLines.{memory_line}
use Rattle.outcomes.specs.Outside.{Outside, GotText}
use Rattle.pef_top.specs.Runs.{Runs}

-- Memory was refused for the words: the process ends so and says it on err, and nothing else is
-- called.
pub record RefusesMemory {D I O : Type 0} (old_err new_err : SinkState)
    (old_devices new_devices : Devices D I O) (ended : Status) : Type 0 where
  pub status : ended ≡ status.NoMemory
  pub line : GotText old_err new_err memory_line
  pub uncalled : new_devices ≡ old_devices

-- What a process does with its words, or where memory was refused for them; what is outside stands
-- behind it with some number of costs.
abbrev pub Processes : {D I O E : Type 0} → Result (Vec (String Global) Global) NoMemory → Outside
    → (ℕ → Outside) → Devices D I O → Devices D I O → E → E → Status → Type 0
Processes (Ok words) old new old_devices new_devices old_err new_err ended =
    (costs : ℕ) × Runs (command_of (texts words.items)) old (new costs) old_devices new_devices
    old_err new_err ended
Processes (Err refused) old new old_devices new_devices old_err new_err ended =
    RefusesMemory old.err (new 0).err old_devices new_devices ended
