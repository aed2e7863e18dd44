use Rattle.std.proofs.Common.{◌≡◌}
use Rattle.segments.specs.JoinedCursor.{parts_of, start_of}
use Rattle.segments.proofs.parts.count_all.Given as goal

abbrev pub invariant-loop-part : goal.invariant-loop-part
invariant-loop-part g l = l.count ≡ start_of (parts_of g.C.DocCursor.list l.parts) l.part-index
