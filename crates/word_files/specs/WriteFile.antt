use Rattle.std.specs.Prelude.{◌≡◌, ℕ, ◌⊎◌, List, Result, Err, OnOk, OnErr}
use Rattle.collection_model.specs.Bytes.{word_bytes}
use Rattle.io_traits.specs.declared.fail.IoFail.{IoFail}
use Rattle.io_traits.specs.declared.fail.IoFail.TheVariants.{Failed, NoMemory}
use Rattle.io_traits.specs.Calls.{Rose}
use Rattle.io_traits.specs.DepotState.{DepotState}
use Rattle.command_model.specs.Written.{IsWritten, IsUnwritten, IsWrittenInPart, IsBeingWritten, IsLeftByFault, OnlyWrites}

-- What writing bytes as the file under a name gives.
pub record WritesBytes (bytes name : List ℕ) (old new : DepotState)
    (result : Result (Unit {0}) IoFail) : Type 0 where
  pub written : OnOk result (IsWritten name old new bytes)
  pub refused : OnErr result (IsWrittenInPart name old new bytes)
  -- What was begun stays begun.
  pub begun : OnErr result (IsUnwritten old new ⊎ IsBeingWritten name old new)
  -- The first call that fails ends the writing.
  pub write_only_where_it_rose : result ≡ Err Failed → Rose old.writing_faults new.writing_faults
  pub count_rises_only_there : (result ≡ Err Failed) ⊎ (new.writing_faults ≡ old.writing_faults)
  -- One name is created, written and finished, and nothing else is called.
  pub writes : OnlyWrites name old new
  -- Which call failed is told by the counts of failed creates and finishes.
  pub failed : result ≡ Err Failed → IsLeftByFault name old new bytes
  pub create_count : (result ≡ Err Failed) ⊎ (new.create_faults ≡ old.create_faults)
  pub finish_count : (result ≡ Err Failed) ⊎ (new.finish_faults ≡ old.finish_faults)
  -- Once the file is created only the depot takes memory, and the first memory that it is refused
  -- ends the writing.
  pub no_memory : result ≡ Err NoMemory → IsUnwritten old new ⊎ Rose old.refusals new.refusals
  pub refusals_rise_only_there : (result ≡ Err NoMemory) ⊎ (new.refusals ≡ old.refusals)

-- What writing words as the file under a name gives: eight bytes a word, the lowest first.
abbrev pub WritesWords : List ℕ → List ℕ → DepotState → DepotState → Result (Unit {0}) IoFail
    → Type 0
WritesWords words name old new result = WritesBytes (word_bytes words) name old new result
