use Rattle.std.proofs.Common.{◌≡◌, ◌+◌, ◌<◌, [], drop}
use Rattle.std.specs.List.{sum_by}
use Rattle.arrayvec.specs.ArrayVec.{array_vec_len}
use Rattle.outcomes.specs.Private.ErrPieces.{most_of, with_pieces}
use Rattle.outcomes.proofs.err_lines.line_of_pieces.Given as goal

-- with the pieces that are left it is the line of all, and there is room for them
abbrev pub invariant-loop-piece : goal.invariant-loop-piece
invariant-loop-piece l = record {
  text : with_pieces l.line.items (drop l.piece-index l.pieces) ≡ with_pieces [] l.pieces;
  room : array_vec_len l.line + sum_by most_of (drop l.piece-index l.pieces) < 355;
}
