use Rattle.std.proofs.Common.{◌≡◌, ◌-◌, ◌≤◌, ◌++◌, length, take, IsTrue}
use Rattle.io_traits.proofs.helpers.write_all_own.Given as goal

abbrev pub invariant-loop-at : goal.invariant-loop-at
invariant-loop-at g l =
    (l.at ≤ length l.piece)
    × ((g.K.Sink.state l.sink).tells ≡ (g.K.Sink.state l.fn.sink).tells)
    × (IsTrue (g.K.Sink.state l.fn.sink).tells → (g.K.Sink.state l.sink).written ≡ (g.K.Sink.state l.fn.sink).written ++ take l.at l.piece)
    × ((g.K.Sink.state l.sink).faults ≡ (g.K.Sink.state l.fn.sink).faults)
    × ((g.K.Sink.state l.sink).refusals ≡ (g.K.Sink.state l.fn.sink).refusals)

abbrev pub decreases-loop-at : goal.decreases-loop-at
decreases-loop-at g l = length l.piece - l.at
