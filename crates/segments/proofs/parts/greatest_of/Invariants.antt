use Rattle.std.proofs.Common.{◌≡◌, take}
use Rattle.collection_model.specs.Collection.{greatest_freq}
use Rattle.segments.specs.Joined.{joined_list}
use Rattle.segments.specs.JoinedCursor.{parts_of}
use Rattle.segments.proofs.parts.greatest_of.Given as goal

abbrev pub invariant-loop-part : goal.invariant-loop-part
invariant-loop-part g l = l.most ≡ greatest_freq (joined_list (take l.part-index (parts_of g.C.DocCursor.list l.parts)))
