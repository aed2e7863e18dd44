use Rattle.std.specs.Prelude.{◌≡◌, ℕ, ◌≤◌, ◌<◌, ◌⊎◌, Bool, IsTrue, List, length, take, Result, IfOk, OnErr, IsErrOf, ◌++◌}
use Rattle.io_traits.specs.declared.fail.IoFail.{IoFail}
use Rattle.io_traits.specs.declared.fail.IoFail.TheVariants.{NoMemory}
use Rattle.io_traits.specs.Calls.{CountsFaults, Rose}

-- what is known of a sink
pub record SinkState : Type 0 where
  -- whether it tells its bytes
  pub tells : Bool
  -- the bytes that were written, where it tells them
  pub written : List ℕ
  -- how often a call failed
  pub faults : ℕ
  -- how often memory was refused
  pub refusals : ℕ

-- A write of a piece appends a prefix of it, at least one byte of a piece that has any.
pub record Writes (old new : SinkState) (piece : List ℕ) (result : Result ℕ IoFail) : Type 0 where
  pub tells : new.tells ≡ old.tells
  pub within : IfOk result (λ n. n ≤ length piece)
  pub not_nothing : 0 < length piece → IfOk result (λ n. 0 < n)
  pub appended : IsTrue old.tells → IfOk result (λ n. new.written ≡ old.written ++ take n piece)
  pub unchanged : IsTrue old.tells → OnErr result (new.written ≡ old.written)
  pub faults : CountsFaults old.faults new.faults result
  pub refusals : old.refusals ≤ new.refusals
  pub no_memory_only_where_it_rose : IsErrOf result NoMemory → Rose old.refusals new.refusals
  pub refusals_rise_only_there : IsErrOf result NoMemory ⊎ (new.refusals ≡ old.refusals)
