use Rattle.std.proofs.Common.{◌+◌, ◌-◌, ◌≤◌, take, vec_len}
use Rattle.io_traits.proofs.Loading.{HasRead}
use Rattle.io_traits.proofs.load.load_bytes.Given as goal

abbrev pub invariant-loop-held : goal.invariant-loop-held
invariant-loop-held g l = record {
  within : l.held ≤ vec_len l.bytes;
  few : l.held ≤ l.limit + 1;
  read : HasRead (g.D.Depot.state l.fn.depot) (g.D.Depot.state l.depot) l.fn.slot (take l.held l.bytes.items);
}

abbrev pub decreases-loop-held : goal.decreases-loop-held
decreases-loop-held g l = l.limit + 1 - l.held
