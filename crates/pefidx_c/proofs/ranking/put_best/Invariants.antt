use Rattle.std.proofs.Common.{◌≡◌, ◌++◌, map, take, drop}
use Rattle.pefidx_c.specs.Rooms.{pair_of}
use Rattle.pefidx_c.proofs.ranking.put_best.Given as goal

abbrev pub invariant-loop-i : goal.invariant-loop-i
invariant-loop-i l = map pair_of l.room ≡ take l.i l.found ++ drop l.i (map pair_of l.initial.room)
