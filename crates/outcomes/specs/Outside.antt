use Rattle.std.specs.Prelude.{◌≡◌, ℕ, ◌⊎◌, ◌++◌, IsTrue, List}
use Rattle.io_traits.specs.declared.fail.Slot.{Slot}
use Rattle.io_traits.specs.Calls.{Rose}
use Rattle.io_traits.specs.SourceState.{SourceState}
use Rattle.io_traits.specs.SinkState.{SinkState}
use Rattle.io_traits.specs.DepotState.{DepotState}
use Rattle.io_traits.specs.Helpers.{AppendsPrefix}

-- all that a run has outside, and how many part costs were counted
pub record Outside : Type 0 where
  pub depot : DepotState
  pub input : SourceState
  pub out : SinkState
  pub err : SinkState
  pub costs : ℕ

-- one put together
abbrev pub outside : DepotState → SourceState → SinkState → SinkState → ℕ → Outside
outside depot input out err costs =
    record { depot = depot; input = input; out = out; err = err; costs = costs }

-- The depot, the input and out tell their bytes.
pub record Told (old : Outside) : Type 0 where
  pub depot : IsTrue old.depot.tells
  pub input : IsTrue old.input.tells
  pub out : IsTrue old.out.tells

-- What told its bytes goes on to tell them, and what did not does not begin to.
pub record KeepsTelling (old new : Outside) : Type 0 where
  pub depot : new.depot.tells ≡ old.depot.tells
  pub input : new.input.tells ≡ old.input.tells
  pub out : new.out.tells ≡ old.out.tells
  pub err : new.err.tells ≡ old.err.tells

-- the calls that are counted where they fail: the starts and reads of a file, the creates, writes
-- and finishes of files, the reads of the input, and the writes on out
pub data Count : Type 0 where
  OfFile : (slot : Slot) → Count
  OfWriting : Count
  OfInput : Count
  OfOut : Count

-- how many of them failed
abbrev pub failed : Count → Outside → ℕ
failed (OfFile slot) o = o.depot.faults slot
failed OfWriting o = o.depot.writing_faults
failed OfInput o = o.input.faults
failed OfOut o = o.out.faults

-- No call on the depot, the input or out failed.
abbrev pub NoCallFailed : Outside → Outside → Type 0
NoCallFailed old new = (count : Count) → ¬ Rose (failed count old) (failed count new)

-- The input and out are as they were: no byte was read, and none was written.
pub record IsUnanswered (old new : Outside) : Type 0 where
  pub input : new.input ≡ old.input
  pub out : new.out ≡ old.out

-- A sink got a text whole, or, only where it failed or was refused memory, a prefix of it.
abbrev pub GotText : SinkState → SinkState → List ℕ → Type 0
GotText old new text =
    IsTrue old.tells →
    (new.written ≡ old.written ++ text)
    ⊎ ((Rose old.faults new.faults ⊎ Rose old.refusals new.refusals)
    × AppendsPrefix old.written new.written text)
