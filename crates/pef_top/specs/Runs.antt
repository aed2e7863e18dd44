use Rattle.std.specs.Prelude.{◌≡◌, Option, None}
use Rattle.pef_top.specs.Names.{Devices, Status, Command, Outside, Outcome, done}
use Rattle.outcomes.specs.Ends.{Ends}
use Rattle.pef_top.specs.Commands.{IsUsage, Performs}
use Rattle.pef_top.specs.Starts.{Starts}
use Rattle.pef_top.specs.Uncalled.{Accepts, LeavesUncalled}

-- What a run promises of its status, of what is outside, of the devices on which the command works,
-- and of err, before it and after it.
pub record Runs {D I O E : Type 0} (command : Option Command) (old new : Outside)
    (old_devices new_devices : Devices D I O) (old_err new_err : E) (result : Status) : Type 0 where
  -- Words that are no command call nothing but err.
  pub usage : command ≡ None →
      IsUsage old.err new.err result
      × (new_devices.depot ≡ old_devices.depot)
      × (new_devices.input ≡ old_devices.input)
      × (new_devices.out ≡ old_devices.out)
  -- There is an outcome: the status and err's line are its own, what the command promises holds of
  -- it, and what it does not call is the same object.
  pub outcome : (ended : Outcome)
      × Ends old new ended result
      × Performs command old new ended
      × Starts command ended old.depot new.depot
      × LeavesUncalled command (Accepts command old.depot) ended old_devices new_devices
      × (ended ≡ done → new_err ≡ old_err)
