use Rattle.std.specs.Prelude.{◌≡◌, ℕ, ◌≤◌, IsTrue, List, [], ◌++◌, length, Result, Ok, Err, Vec, IfOk, IfErr}
use Rattle.std.specs.declared.alloc.Global.{Global}
use Rattle.collection_model.specs.Collection.{Collection}
use Rattle.io_traits.specs.SourceState.{SourceState}
use Rattle.io_traits.specs.SinkState.{SinkState}
use Rattle.text_replies.specs.declared.text.RunFault.{RunFault}
use Rattle.text_replies.specs.AnswerText.{AnswersText}
use Rattle.text_replies.specs.Unended.{AnswersBytes}

-- These bytes were read, and no read failed.
pub record HasRead (bytes : List ℕ) (old new : SourceState) : Type 0 where
  pub tells : new.tells ≡ old.tells
  pub told : IsTrue old.tells → old.left ≡ bytes ++ new.left
  pub faults : new.faults ≡ old.faults

-- The whole input was read, each line that ended is answered, and the line that is left unended is
-- held.
pub record AnswersAllEnded (c : Collection) (limit : ℕ) (input_old input_new : SourceState)
    (out_old out_new : SinkState) (held : List ℕ) : Type 0 where
  pub bytes : List ℕ
  pub read : HasRead bytes input_old input_new
  pub to_end : IsTrue input_old.tells → input_new.left ≡ []
  pub within : length bytes ≤ limit
  pub answered : AnswersBytes c bytes held out_old out_new (Ok tt)

-- All ended lines are answered, or what a text leaves that is not answered whole.
pub record AnswersEnded (c : Collection) (limit : ℕ) (input_old input_new : SourceState)
    (out_old out_new : SinkState) (result : Result (Vec ℕ Global) RunFault) : Type 0 where
  pub ended : IfOk result
      (λ held. AnswersAllEnded c limit input_old input_new out_old out_new held.items)
  pub stopped : IfErr result
      (λ fault. AnswersText c limit input_old input_new out_old out_new (Err fault))
