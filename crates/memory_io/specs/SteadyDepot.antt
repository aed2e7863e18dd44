use Rattle.std.specs.Prelude.{ℕ, true, List, [], Option, None, Some, Vec, String, is_some}
use Rattle.std.specs.declared.alloc.Global.{Global}
use Rattle.memory_io.specs.declared.opened.Opened.{Opened}
use Rattle.memory_io.specs.declared.steady_depot.SteadyDepot.{SteadyDepot}
use Rattle.memory_io.specs.DepotCalls.{calls_of}
use Rattle.io_traits.specs.DepotState.{DepotState}
use Rattle.memory_io.specs.InMemory.{DepotInMemory, file_in}
use Rattle.memory_io.specs.Files.{name_at}
use Rattle.memory_io.specs.Opened.{rest}
use Rattle.io_traits.specs.PerSlot.{at_slot}
use Rattle.memory_io.specs.Asked.{starting}

-- the bytes that a slot has left, none where it is not started
abbrev pub left_in : Option Opened → List ℕ
left_in None = []
left_in (Some opened) = rest opened

-- the name that is written, none where no name is created
abbrev pub written_name : List (String Global × Vec ℕ Global) → Option ℕ → List ℕ
written_name files None = []
written_name files (Some at) = name_at files at

-- what is known of a depot in memory where no call fails
abbrev pub steady_state : SteadyDepot → DepotState
steady_state d = record {
  tells = true;
  file = file_in d.files.list.items;
  left = λ slot. left_in (at_slot d.opened slot);
  name = written_name d.files.list.items d.created;
  started = λ slot. is_some (at_slot d.opened slot);
  created = is_some d.created;
  faults = λ _. 0;
  writing_faults = 0;
  create_faults = 0;
  finish_faults = 0;
  starts = λ slot. starting (at_slot d.calls.starts slot) (at_slot d.asked slot);
  refusals = d.refusals;
}

-- the same with how many bytes a call moves at most, and how many calls of each kind there were
abbrev pub steady_depot : SteadyDepot → DepotInMemory
steady_depot d = record {
  state = steady_state d;
  most = d.most;
  fails = [];
  calls = calls_of d.calls;
}
