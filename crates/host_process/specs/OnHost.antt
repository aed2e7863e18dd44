use Rattle.std.specs.Prelude.{◌≡◌, ℕ}
use Rattle.std.specs.Process.{exit_status}
use Rattle.std.specs.declared.process.ExitCode.{ExitCode}
use Rattle.command_ends.specs.declared.devices.Devices.{Devices}
use Rattle.outcomes.specs.declared.status.Status.{Status}
use Rattle.outcomes.specs.Outside.{Outside}
use Rattle.outcomes.specs.StatusNumber.{status_number}
use Rattle.system_io.specs.Standard.{IsUntouched}
use Rattle.host_process.specs.Process.{Processes}
use Rattle.host_process.specs.Words.{GivenWords, TakenWords, TakesWords}

-- Nothing was called of the depot, and no call of a stream failed.
pub record IsFresh (seen : Outside) : Type 0 where
  pub depot : IsUntouched seen.depot
  pub input : seen.input.faults ≡ 0
  pub out : seen.out.faults ≡ 0
  pub err : seen.err.faults ≡ 0

-- What a process does over devices and an err that it makes, of which nothing was called and
-- which have its streams: it takes the words that were given, does what they ask, and ends with the
-- number of the status.
pub record ProcessesAnew {D I O E : Type 0} (HaveStreams : Devices D I O → E → Type 0)
    (seen : Devices D I O → E → ℕ → Outside) (given : GivenWords) (result : ExitCode) : Type 0 where
  pub old_devices : Devices D I O
  pub new_devices : Devices D I O
  pub old_err : E
  pub new_err : E
  pub streams : HaveStreams old_devices old_err
  pub fresh : IsFresh (seen old_devices old_err 0)
  pub words : TakenWords
  pub taken : TakesWords given words
  pub status : Status
  pub number : exit_status result ≡ status_number status
  pub processed : Processes words (seen old_devices old_err 0) (seen new_devices new_err)
      old_devices new_devices old_err new_err status
