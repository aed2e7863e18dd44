use Rattle.std.specs.Prelude.{◌≡◌, ◌≢◌, ℕ, ◌+◌, ◌-◌, ◌^◌, min, false, true, IsTrue, List, [], Option, Vec, String, string_bytes, bytes_eq, find, option_map, Contains}
use Rattle.std.specs.declared.alloc.Global.{Global}
use Rattle.io_traits.specs.declared.fail.Slot.{Slot}
use Rattle.memory_io.specs.declared.calls.Op.{Op}
use Rattle.io_traits.specs.Calls.{one_more}
use Rattle.io_traits.specs.SourceState.{SourceState}
use Rattle.io_traits.specs.SinkState.{SinkState}
use Rattle.io_traits.specs.DepotState.{DepotState}

-- what is known of a source in memory: how many bytes a read moves at most, which reads fail, and
-- how many there were
pub record SourceInMemory : Type 0 where
  pub state : SourceState
  pub most : ℕ
  pub fails : List ℕ
  pub calls : ℕ

-- the same of a sink
pub record SinkInMemory : Type 0 where
  pub state : SinkState
  pub most : ℕ
  pub fails : List ℕ
  pub calls : ℕ

-- the same of a depot: how many bytes a read or a write moves at most, which calls of each kind
-- fail, and how many there were
pub record DepotInMemory : Type 0 where
  pub state : DepotState
  pub most : ℕ
  pub fails : List (Op × ℕ)
  pub calls : Op → ℕ

-- A source was read once more, and keeps its settings.
pub record ReadOnce (old new : SourceInMemory) : Type 0 where
  pub calls : new.calls ≡ min (old.calls + 1) (2 ^ 64 - 1)
  pub most : new.most ≡ old.most
  pub fails : new.fails ≡ old.fails

-- A sink was written to once more, and keeps its settings.
pub record WrittenOnce (old new : SinkInMemory) : Type 0 where
  pub calls : new.calls ≡ min (old.calls + 1) (2 ^ 64 - 1)
  pub most : new.most ≡ old.most
  pub fails : new.fails ≡ old.fails

-- One more call of this kind was made on a depot, and none of another; it keeps its settings.
pub record CalledOnce (op : Op) (old new : DepotInMemory) : Type 0 where
  pub this : new.calls op ≡ one_more (old.calls op)
  pub others : (other : Op) → other ≢ op → new.calls other ≡ old.calls other
  pub most : new.most ≡ old.most
  pub fails : new.fails ≡ old.fails

-- The next call of this kind on a depot is one of those that fail.
abbrev pub FailsNext : DepotInMemory → Op → Type 0
FailsNext depot op = Contains depot.fails (op, one_more (depot.calls op))

-- The names under which a slot was started are told where they were told before.
abbrev pub TellsOn : Slot → DepotState → DepotState → Type 0
TellsOn slot old new = (new.starts slot).told ≡ (old.starts slot).told

-- a source in memory that has these bytes to give
abbrev pub IsNewSource : List ℕ → SourceState → Type 0
IsNewSource bytes state = state ≡ record { tells = true; left = bytes; faults = 0 }

-- a sink in memory to which nothing was written
abbrev pub IsNewSink : SinkState → Type 0
IsNewSink state = state ≡ record { tells = true; written = []; faults = 0; refusals = 0 }

-- the bytes under a name in a list of files; at a name that stands there twice, the first
abbrev pub file_in : List (String Global × Vec ℕ Global) → List ℕ → Option (List ℕ)
file_in files name =
    option_map (λ f. f.1.items) (find (λ f. bytes_eq (string_bytes f.0) name) files)

-- a depot in memory that has these files, where nothing is started or created
pub record IsNewDepot (files : List (String Global × Vec ℕ Global)) (state : DepotState) : Type 0
  where
    pub tells : IsTrue state.tells
    pub has_files : (name : List ℕ) → state.file name ≡ file_in files name
    pub none_started : (slot : Slot) → state.started slot ≡ false
    pub none_created : state.created ≡ false
    pub no_faults : (slot : Slot) → state.faults slot ≡ 0
    pub no_writing_faults : state.writing_faults ≡ 0
    pub no_create_faults : state.create_faults ≡ 0
    pub no_finish_faults : state.finish_faults ≡ 0
    pub no_starts : (slot : Slot) → state.starts slot ≡ record {
      count = 0;
      told = true;
      names = [];
    }
    pub no_refusals : state.refusals ≡ 0
