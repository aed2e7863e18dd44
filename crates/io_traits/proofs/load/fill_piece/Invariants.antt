use Rattle.std.proofs.Common.{◌≡◌, ◌-◌, ◌≤◌, length, take}
use Rattle.io_traits.proofs.Loading.{HasRead}
use Rattle.io_traits.proofs.load.fill_piece.Given as goal

abbrev pub invariant-loop-held : goal.invariant-loop-held
invariant-loop-held g l = record {
  within : l.held ≤ length l.piece;
  room : length l.piece ≡ length l.fn.piece;
  read : HasRead (g.D.Depot.state l.fn.depot) (g.D.Depot.state l.depot) l.fn.slot (take l.held l.piece);
}

abbrev pub decreases-loop-held : goal.decreases-loop-held
decreases-loop-held g l = length l.piece - l.held
