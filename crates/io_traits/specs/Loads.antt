use Rattle.std.specs.Prelude.{◌≡◌, ◌≢◌, ℕ, ◌+◌, ◌≤◌, ◌<◌, ◌⊎◌, ◌++◌, IsTrue, List, [], length, take, drop, All, Vec, Result, Ok, Err, IfOk, IfErr, OnOk, OnErr, IsErrOf}
use Rattle.std.specs.declared.alloc.Global.{Global}
use Rattle.io_traits.specs.declared.fail.IoFail.{IoFail}
use Rattle.io_traits.specs.declared.fail.IoFail.TheVariants as call
use Rattle.io_traits.specs.declared.fail.Slot.{Slot}
use Rattle.io_traits.specs.declared.load.LoadError.{LoadError}
use Rattle.io_traits.specs.declared.load.LoadError.TheVariants.{Read, TooLarge, NoMemory}
use Rattle.io_traits.specs.Calls.{Rose}
use Rattle.io_traits.specs.DepotState.{DepotState, SameStarts, OnlyReads}

-- the bytes of a vector that was loaded
abbrev pub loaded : Result (Vec ℕ Global) LoadError → Result (List ℕ) LoadError
loaded (Ok bytes) = Ok bytes.items
loaded (Err e) = Err e

-- the refusal that comes of a read that failed
abbrev pub load_error : IoFail → LoadError
load_error call.Failed = Read
load_error call.NoMemory = NoMemory

-- So many bytes were read of those that were left, and no more.
abbrev pub TakesBytes : ℕ → List ℕ → List ℕ → Type 0
TakesBytes n before after = (n ≤ length before) × (after ≡ drop n before)

-- A started slot is read to its end where it has no more bytes than the limit, and else one byte
-- past the limit.
pub record Loads (old new : DepotState) (slot : Slot) (limit : ℕ)
    (result : Result (List ℕ) LoadError) : Type 0 where
  pub within : IfOk result (λ bytes. length bytes ≤ limit)
  pub are_bytes : IfOk result (λ bytes. All (λ b. b < 256) bytes)
  pub all_bytes : IsTrue old.tells → IfOk result (λ bytes. bytes ≡ old.left slot)
  pub none_left : IsTrue old.tells → OnOk result (new.left slot ≡ [])
  pub too_large : IsTrue old.tells → IsErrOf result TooLarge
      → TakesBytes (limit + 1) (old.left slot) (new.left slot)
  pub other_refusals : IsTrue old.tells
      → IfErr result (λ e. e ≢ TooLarge
      → (n : ℕ) × (n ≤ limit) × TakesBytes n (old.left slot) (new.left slot))
  pub read_only_where_it_rose : IsErrOf result Read → Rose (old.faults slot) (new.faults slot)
  pub count_rises_only_there : IsErrOf result Read ⊎ (new.faults slot ≡ old.faults slot)
  pub reads : OnlyReads (λ s. s ≡ slot) old new
  pub starts : SameStarts old new
  pub refusals_rise_only_there : IsErrOf result NoMemory ⊎ (new.refusals ≡ old.refusals)

-- A piece is filled with the next bytes of a started slot, or with all that it has left. A refusal
-- takes no more than it has room for.
pub record FillsPiece (old new : DepotState) (slot : Slot) (piece : List ℕ)
    (result : Result ℕ IoFail) : Type 0 where
  pub within : IfOk result (λ n. n ≤ length piece)
  pub next_bytes : IsTrue old.tells
      → IfOk result (λ n. old.left slot ≡ take n piece ++ new.left slot)
  pub at_end : IsTrue old.tells → IfOk result (λ n. n < length piece → new.left slot ≡ [])
  pub at_refusal : IsTrue old.tells
      → OnErr result ((n : ℕ) × (n ≤ length piece) × TakesBytes n (old.left slot) (new.left slot))
  pub failed_only_where_it_rose : IsErrOf result call.Failed
      → Rose (old.faults slot) (new.faults slot)
  pub count_rises_only_there : IsErrOf result call.Failed ⊎ (new.faults slot ≡ old.faults slot)
  pub reads : OnlyReads (λ s. s ≡ slot) old new
  pub starts : SameStarts old new
  pub no_memory_only_where_it_rose : IsErrOf result call.NoMemory → Rose old.refusals new.refusals
  pub refusals_rise_only_there : IsErrOf result call.NoMemory ⊎ (new.refusals ≡ old.refusals)
