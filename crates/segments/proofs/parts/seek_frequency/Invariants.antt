use Rattle.std.proofs.Common.{◌≡◌, ℕ, ◌<◌, slice_index}
use Rattle.segments.specs.JoinedCursor.{parts_of, places_of, joined_place}
use Rattle.segments.proofs.Frequencies.{AreRarer}
use Rattle.segments.proofs.parts.seek_frequency.Given as goal

abbrev pub invariant-loop-i : goal.invariant-loop-i
invariant-loop-i g l = record {
  parts : parts_of g.C.DocCursor.list l.parts ≡ parts_of g.C.DocCursor.list l.initial.parts;
  unread : (j : ℕ) → l.i < j → slice_index (places_of g.C.DocCursor.place l.parts) j ≡ 0;
  passed : AreRarer (parts_of g.C.DocCursor.list l.initial.parts) (joined_place (parts_of g.C.DocCursor.list l.initial.parts) (places_of g.C.DocCursor.place l.initial.parts) l.at) l.f (joined_place (parts_of g.C.DocCursor.list l.initial.parts) (places_of g.C.DocCursor.place l.parts) l.i);
}
