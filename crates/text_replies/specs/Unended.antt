use Rattle.std.specs.Prelude.{◌≡◌, ℕ, List, [], ◌∷◌, take, Result, OnOk}
use Rattle.collection_model.specs.Collection.{Collection}
use Rattle.io_traits.specs.declared.fail.IoFail.{IoFail}
use Rattle.io_traits.specs.SinkState.{SinkState}
use Rattle.query_text.specs.Lines.{pieces, newline, ended_lines}
use Rattle.text_replies.specs.AnswersLines.{AnswersLines}

-- the last of some pieces
abbrev pub last_piece : List (List ℕ) → List ℕ
last_piece [] = []
last_piece (p ∷ []) = p
last_piece (p ∷ q ∷ ps) = last_piece (q ∷ ps)

-- the bytes of a text behind its last newline
abbrev pub unended : List ℕ → List ℕ
unended text = last_piece (pieces newline text)

-- the most bytes of a line that are held, one more than a line may have
abbrev pub most_held : ℕ
most_held = 65536

-- What is held of a line is all of it, or as much as tells that it is too long.
abbrev pub IsHeld : List ℕ → List ℕ → Type 0
IsHeld line held = held ≡ take most_held line

-- Each line that ended within these bytes is answered, and the line that they leave unended is
-- held.
pub record AnswersBytes (c : Collection) (bytes held : List ℕ) (old new : SinkState)
    (result : Result (Unit {0}) IoFail) : Type 0 where
  pub lines : AnswersLines c (ended_lines bytes) old new result
  pub last : OnOk result (IsHeld (unended bytes) held)
