-- The room of the cursors that are lent for a line.
use Rattle.std.specs.Prelude.{◌≡◌, ◌≤◌, ℕ, length, Result, MatchResult}
use Rattle.smallvec.specs.SmallVec.{SmallVec}
use Rattle.query_text.specs.declared.query.Query.{Query}
use Rattle.query_text.specs.declared.query.Bad.{Bad}
use Rattle.command_model.specs.Replies.{terms_of}

-- Room gets no less, and stays as it is where it was enough for so many.
pub record KeepsRoom (needed old new : ℕ) : Type 0 where
  pub no_less : old ≤ new
  pub enough : needed ≤ old → new ≡ old

-- Cursors keep their room for the terms of a line, and are left alone where it asks nothing.
abbrev pub KeepsRoomFor : {C : Type 0} → Result Query Bad → SmallVec C → SmallVec C → Type 0
KeepsRoomFor line old new =
    MatchResult line (λ query. KeepsRoom (length (terms_of query)) old.capacity new.capacity)
    (λ bad. new ≡ old)
