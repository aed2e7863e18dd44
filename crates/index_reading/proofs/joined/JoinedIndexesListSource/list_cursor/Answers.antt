use Rattle.std.proofs.Common.{sym, subst, List}
use Rattle.collection_model.specs.Collection.{Posting}
use Rattle.collection_model.specs.Sequences.{postings_in}
use Rattle.postings.specs.declared.cursor.PostingCursor.{PostingCursor}
use Rattle.segments.specs.JoinedCursor.{parts_of}
use Rattle.index_reading.specs.JoinedSegments.{AreSegments}
use Rattle.index_reading.proofs.Joining.{parts-follow}
use Rattle.index_reading.proofs.joined.JoinedIndexesListSource.list_cursor.Goals as goal

abbrev list_at : PostingCursor → List Posting
list_at c = postings_in c.docs.sequence.values c.sums.sequence.values

pub new-requires-clause-follow : goal.new-requires-clause-follow
new-requires-clause-follow c =
    parts-follow c.deref.result.now c.args.term (parts_of list_at c.in_ok-parts.parts.items) c.joined_lists_follow.ensures.follow (subst AreSegments (sym c.deref.ensures.value) c.args.self.now.follow)
    c.in_ok-parts.ensures.lists
