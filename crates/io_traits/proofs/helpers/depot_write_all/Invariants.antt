use Rattle.std.proofs.Common.{◌≡◌, ◌-◌, ◌≤◌, ◌++◌, [], length, take, unwrap_or, IsTrue}
use Rattle.io_traits.specs.DepotState.{SameFilesBut, SameSlots, SameWriting, SameStarts}
use Rattle.io_traits.specs.Helpers.{HasFile}
use Rattle.io_traits.proofs.helpers.depot_write_all.Given as goal

abbrev pub invariant-loop-at : goal.invariant-loop-at
invariant-loop-at g l =
    let old = g.D.Depot.state l.fn.depot in
    let now = g.D.Depot.state l.depot in
    (l.at ≤ length l.piece)
    × (now.tells ≡ old.tells)
    × (IsTrue old.tells → unwrap_or (now.file old.name) [] ≡ unwrap_or (old.file old.name) [] ++ take l.at l.piece)
    × (IsTrue old.tells → SameFilesBut old.name old now)
    × SameSlots old now
    × SameWriting old now
    × (now.writing_faults ≡ old.writing_faults)
    × ((slot : _) → now.faults slot ≡ old.faults slot)
    × (IsTrue old.tells → HasFile old old.name → HasFile now old.name)
    × (now.create_faults ≡ old.create_faults)
    × (now.finish_faults ≡ old.finish_faults)
    × SameStarts old now
    × (now.refusals ≡ old.refusals)

abbrev pub decreases-loop-at : goal.decreases-loop-at
decreases-loop-at g l = length l.piece - l.at
