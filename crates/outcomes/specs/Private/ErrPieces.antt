use Rattle.std.specs.Prelude.{ℕ, List, decimal, ◌++◌, ◌+◌, length}
use Rattle.std.specs.List.{fold}
use Rattle.outcomes.specs.declared.err_lines.Piece.{Piece}
use Rattle.outcomes.specs.declared.err_lines.Piece.TheVariants.{Number, Text}

-- a line with a piece behind it
abbrev pub with_piece : List ℕ → Piece → List ℕ
with_piece line (Text text) = line ++ text.now
with_piece line (Number label n) = line ++ label.now ++ decimal n

-- a line with pieces behind it, one after the other
abbrev pub with_pieces : List ℕ → List Piece → List ℕ
with_pieces line pieces = fold with_piece line pieces

-- the most bytes of a piece: a number has at most 20 digits
abbrev pub most_of : Piece → ℕ
most_of (Text text) = length text.now
most_of (Number label n) = length label.now + 20
