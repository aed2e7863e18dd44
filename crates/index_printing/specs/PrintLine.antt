use Rattle.std.specs.Prelude.{◌≡◌, ℕ, ◌≤◌, ◌⊎◌, ◌++◌, IsTrue, List, Result, Err, OnOk, OnErr}
use Rattle.io_traits.specs.declared.fail.IoFail.{IoFail}
use Rattle.io_traits.specs.declared.fail.IoFail.TheVariants.{Failed}
use Rattle.io_traits.specs.Calls.{Rose}
use Rattle.io_traits.specs.SinkState.{SinkState}
use Rattle.io_traits.specs.Helpers.{AppendsPrefix}

-- What printing a line on out gives.
pub record PrintsLine (line : List ℕ) (old new : SinkState) (result : Result (Unit {0}) IoFail)
    : Type 0 where
  pub tells : new.tells ≡ old.tells
  pub whole : IsTrue old.tells → OnOk result (new.written ≡ old.written ++ line)
  pub prefix : IsTrue old.tells → OnErr result (AppendsPrefix old.written new.written line)
  -- A write that fails ends the printing.
  pub write_only_where_it_rose : result ≡ Err Failed → Rose old.faults new.faults
  pub count_rises_only_there : (result ≡ Err Failed) ⊎ (new.faults ≡ old.faults)
  pub counts_never_fall : (old.faults ≤ new.faults) × (old.refusals ≤ new.refusals)
