use Rattle.std.proofs.Common.{◌≡◌, List, take}
use Rattle.std.specs.List.{All}
use Rattle.collection_model.specs.Collection.{Posting}
use Rattle.collection_model.specs.Sequences.{postings_in}
use Rattle.postings.specs.declared.cursor.PostingCursor.{PostingCursor}
use Rattle.segments.specs.JoinedCursor.{parts_of}
use Rattle.index_reading.specs.JoinedSegments.{lists_in}
use Rattle.index_reading.proofs.joined.parts_at.Given as goal

abbrev pub list_at : PostingCursor → List Posting
list_at c = postings_in c.docs.sequence.values c.sums.sequence.values

abbrev pub invariant-loop-segment : goal.invariant-loop-segment
invariant-loop-segment l = record {
  lists : parts_of list_at l.parts.items ≡ lists_in (take l.segment-index l.segments) l.term;
  start : All (λ p. p.1.docs.place ≡ 0) l.parts.items;
}
