use Rattle.std.specs.Prelude.{◌≡◌, ℕ, ◌≤◌, ◌⊎◌, IsTrue, List, [], length, take, Some, unwrap_or, Result, OnOk, OnErr, IsErrOf, ◌++◌}
use Rattle.io_traits.specs.declared.fail.IoFail.{IoFail}
use Rattle.io_traits.specs.declared.fail.IoFail.TheVariants.{NoMemory}
use Rattle.io_traits.specs.Calls.{CountsFaults, Rose}
use Rattle.io_traits.specs.SinkState.{SinkState}
use Rattle.io_traits.specs.DepotState.{DepotState, SameFilesBut, SameSlots, SameWriting, CountsWriting}

-- The bytes after are those before with a prefix of the piece.
abbrev pub AppendsPrefix : List ℕ → List ℕ → List ℕ → Type 0
AppendsPrefix old new piece = (n : ℕ) × (n ≤ length piece) × (new ≡ old ++ take n piece)

-- A whole piece is written, or on a refusal a prefix of it.
pub record WritesAll (old new : SinkState) (piece : List ℕ) (result : Result (Unit {0}) IoFail)
    : Type 0 where
  pub tells : new.tells ≡ old.tells
  pub whole : IsTrue old.tells → OnOk result (new.written ≡ old.written ++ piece)
  pub prefix : IsTrue old.tells → OnErr result (AppendsPrefix old.written new.written piece)
  pub faults : CountsFaults old.faults new.faults result
  pub refusals : old.refusals ≤ new.refusals
  pub no_memory_only_where_it_rose : IsErrOf result NoMemory → Rose old.refusals new.refusals
  pub refusals_rise_only_there : IsErrOf result NoMemory ⊎ (new.refusals ≡ old.refusals)

-- There is a file under the name.
abbrev pub HasFile : DepotState → List ℕ → Type 0
HasFile depot name = (bytes : List ℕ) × (depot.file name ≡ Some bytes)

-- the same of the file that is being written, which stays a file
pub record WritesAllToFile (old new : DepotState) (piece : List ℕ)
    (result : Result (Unit {0}) IoFail) : Type 0 where
  pub tells : new.tells ≡ old.tells
  pub whole : IsTrue old.tells
      → OnOk result (unwrap_or (new.file old.name) [] ≡ unwrap_or (old.file old.name) [] ++ piece)
  pub prefix : IsTrue old.tells
      → OnErr result (AppendsPrefix (unwrap_or (old.file old.name) [])
      (unwrap_or (new.file old.name) []) piece)
  pub stays : IsTrue old.tells → HasFile old old.name → HasFile new old.name
  pub other_files : IsTrue old.tells → SameFilesBut old.name old new
  pub slots : SameSlots old new
  pub writing : SameWriting old new
  pub counts : CountsWriting old new result
  pub create_count : new.create_faults ≡ old.create_faults
  pub finish_count : new.finish_faults ≡ old.finish_faults
