use Rattle.std.proofs.Common.{◌≡◌, ◌≤◌, ◌*◌, length, take}
use Rattle.std.specs.List.{sum_by}
use Rattle.pefidx_c.specs.Asked.{lists_of}
use Rattle.pefidx_c.proofs.reply_room.most_in_any.Given as goal

abbrev pub invariant-loop-term : goal.invariant-loop-term
invariant-loop-term l =
    (l.total ≡ sum_by length (lists_of l.index.collection (take l.term-index l.terms))) × (l.total ≤ 4294967295 * l.term-index)
