use Rattle.std.specs.Prelude.{◌≡◌, ◌≢◌}
use Rattle.pef_top.specs.Names.{SinkState, Status, GotText, Outcome, done, status_of, line_of}

-- What is reported of an outcome: its status, and its line on err.
pub record Reports (old new : SinkState) (outcome : Outcome) (result : Status) : Type 0 where
  pub status : result ≡ status_of outcome
  pub line : outcome ≢ done → GotText old new (line_of outcome)
  pub tells : new.tells ≡ old.tells
