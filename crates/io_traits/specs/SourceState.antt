use Rattle.std.specs.Prelude.{◌≡◌, ℕ, ◌≤◌, ◌<◌, Bool, IsTrue, List, [], length, take, Result, IfOk, OnErr, ◌++◌, ◌↔◌}
use Rattle.io_traits.specs.declared.fail.IoFail.{IoFail}
use Rattle.io_traits.specs.Calls.{CountsFaults}

-- what is known of a source
pub record SourceState : Type 0 where
  -- whether it tells its bytes
  pub tells : Bool
  -- the bytes that are left, where it tells them
  pub left : List ℕ
  -- how often a call failed
  pub faults : ℕ

-- A read into a buffer: the next bytes come into its front, and none come only at the end.
pub record Reads (old new : SourceState) (before after : List ℕ) (result : Result ℕ IoFail) : Type 0
  where
    pub tells : new.tells ≡ old.tells
    pub within : IfOk result (λ n. n ≤ length before)
    pub next_bytes : IsTrue old.tells → IfOk result (λ n. old.left ≡ take n after ++ new.left)
    pub at_end : IsTrue old.tells → 0 < length before → IfOk result (λ n. (n ≡ 0) ↔ (old.left ≡ []))
    pub unchanged : IsTrue old.tells → OnErr result (new.left ≡ old.left)
    pub faults : CountsFaults old.faults new.faults result
