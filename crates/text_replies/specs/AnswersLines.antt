use Rattle.std.specs.Prelude.{◌≡◌, ℕ, ◌≤◌, IsTrue, List, Result, OnOk, OnErr}
use Rattle.collection_model.specs.Collection.{Collection}
use Rattle.io_traits.specs.declared.fail.IoFail.{IoFail}
use Rattle.io_traits.specs.Calls.{CountsFaults}
use Rattle.io_traits.specs.SinkState.{SinkState}
use Rattle.command_model.specs.GotReplies.{GotReplies, GotPrefixOfReplies}

-- Out got the replies to some lines, or on a refusal a prefix of them.
pub record AnswersLines (c : Collection) (lines : List (List ℕ)) (old new : SinkState)
    (result : Result (Unit {0}) IoFail) : Type 0 where
  pub tells : new.tells ≡ old.tells
  pub all : IsTrue old.tells → OnOk result (GotReplies c lines old new)
  pub prefix : IsTrue old.tells → OnErr result (GotPrefixOfReplies c lines old new)
  pub faults : CountsFaults old.faults new.faults result
  pub refusals : old.refusals ≤ new.refusals
