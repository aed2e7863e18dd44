use Rattle.std.proofs.Common.{◌≡◌, ◌+◌, ◌++◌, map, take}
use Rattle.index_reading.proofs.turn.add_docs.Given as goal

abbrev pub invariant-loop-j : goal.invariant-loop-j
invariant-loop-j l = l.docs.items ≡ l.initial.docs.items ++ take l.j (map (λ d. l.first + d) l.view.values)
