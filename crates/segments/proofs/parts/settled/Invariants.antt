use Rattle.std.proofs.Common.{◌≡◌}
use Rattle.segments.specs.JoinedCursor.{parts_of, places_of, joined_place}
use Rattle.segments.proofs.parts.settled.Given as goal

abbrev pub invariant-loop-i : goal.invariant-loop-i
invariant-loop-i g l = record {
  place : joined_place (parts_of g.C.DocCursor.list l.parts) (places_of g.C.DocCursor.place l.parts) l.i ≡ joined_place (parts_of g.C.DocCursor.list l.parts) (places_of g.C.DocCursor.place l.parts) l.at;
}
