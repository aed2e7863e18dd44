use Rattle.std.proofs.Common.{◌≡◌, ◌++◌, ◌<◌, IsTrue, Ok, ℕ, get_or, take}
use Rattle.held_pieces.specs.Pieces.{rest_of, ReadsOn}
use Rattle.held_pieces.proofs.held.Held.number.Given as goal

abbrev pub invariant-loop-byte : goal.invariant-loop-byte
invariant-loop-byte g l =
    record {
      fit : (i : ℕ) → get_or l.byte-items i 0 < 256;
      rest : IsTrue (g.D.Depot.state l.fn.depot).tells → rest_of l.fn.self (g.D.Depot.state l.fn.depot) l.slot ≡ take l.byte-index l.byte-items ++ rest_of l.self (g.D.Depot.state l.depot) l.slot;
      depot : ReadsOn l.slot (g.D.Depot.state l.fn.depot) (g.D.Depot.state l.depot) (Ok l.byte-index);
    }
