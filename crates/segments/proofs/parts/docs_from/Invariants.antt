use Rattle.std.proofs.Common.{◌≡◌, ℕ, ◌+◌, ◌<◌, ◌≤◌, length, slice_index}
use Rattle.collection_model.specs.Collection.{docs_of}
use Rattle.collection_model.proofs.NextBelow.{AreGiven}
use Rattle.segments.specs.Joined.{joined_list}
use Rattle.segments.specs.JoinedCursor.{parts_of, places_of, joined_place}
use Rattle.segments.proofs.parts.docs_from.Given as goal

abbrev pub invariant-loop-i : goal.invariant-loop-i
invariant-loop-i g l = record {
  parts : parts_of g.C.DocCursor.list l.parts ≡ parts_of g.C.DocCursor.list l.initial.parts;
  unread : (j : ℕ) → l.i < j → slice_index (places_of g.C.DocCursor.place l.parts) j ≡ 0;
  place : joined_place (parts_of g.C.DocCursor.list l.initial.parts) (places_of g.C.DocCursor.place l.parts) l.i ≡ joined_place (parts_of g.C.DocCursor.list l.initial.parts) (places_of g.C.DocCursor.place l.initial.parts) l.at + l.count;
  room : l.count ≤ length l.docs;
  docs : AreGiven (docs_of (joined_list (parts_of g.C.DocCursor.list l.initial.parts))) (joined_place (parts_of g.C.DocCursor.list l.initial.parts) (places_of g.C.DocCursor.place l.initial.parts) l.at) l.end l.docs l.count;
}
