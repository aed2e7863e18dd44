use Rattle.std.proofs.Common.{◌≡◌, ◌+◌, ◌++◌, map, take}
use Rattle.pefidx_c.specs.Rooms.{pair_of}
use Rattle.pefidx_c.proofs.joining.add_range.Given as goal

abbrev pub invariant-loop-scored : goal.invariant-loop-scored
invariant-loop-scored l =
    l.pairs.items ≡ l.initial.pairs.items
    ++ map (λ e. (l.first + e.0, e.1)) (map pair_of (take l.scored-index l.given))
