use Rattle.std.specs.Prelude.{◌≡◌}
use Rattle.std.specs.Borrow.{MutBor}
use Rattle.command_ends.specs.declared.devices.Devices.{Devices}

-- devices put together
abbrev pub devices : {D I O : Type 0} → D → I → O → Devices D I O
devices depot input out = record { depot = depot; input = input; out = out }

-- the devices that references lend
abbrev pub lent : {D I O : Type 0} → Devices (MutBor D) (MutBor I) (MutBor O) → Devices D I O
lent on = devices on.depot.now on.input.now on.out.now

-- The references lend the same devices.
pub record LendTheSame {D I O : Type 0} (old new : Devices (MutBor D) (MutBor I) (MutBor O))
    : Type 0 where
  pub depot : new.depot.ghost_name ≡ old.depot.ghost_name
  pub input : new.input.ghost_name ≡ old.input.ghost_name
  pub out : new.out.ghost_name ≡ old.out.ghost_name
