use Rattle.std.proofs.Common.{◌≡◌, ◌<◌, ◌^◌, length, map, take}
use Rattle.std.specs.Prelude.{min}
use Rattle.std.specs.List.{fold}
use Rattle.pefidx_c.specs.Asked.{lists_of}
use Rattle.pefidx_c.proofs.reply_room.most_in_all.Given as goal

abbrev pub invariant-loop-term : goal.invariant-loop-term
invariant-loop-term l =
    (l.most ≡ fold min l.index.collection.documents (map length (lists_of l.index.collection (take l.term-index l.terms)))) × (l.most < 2 ^ 32)
