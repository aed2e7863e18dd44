use Rattle.std.proofs.Common.{ap, ◌+◌, arith}
use Rattle.segments.proofs.InRange.{well-in-range}
use Rattle.index_reading.proofs.Joining.{collections-more, documents-more, segments-more}
use Rattle.index_reading.proofs.joined.with_segment.Goals as goal

pub overflow_add-total : goal.overflow_add-total
overflow_add-total c =
    omega (arith, c.documents.ensures, c.requires.documents, c.requires.few)

pub returns-clause-segments : goal.returns-clause-segments
returns-clause-segments c =
    segments-more c.args.segments.items c.push.new.self.items _ c.in_ok-push.ensures.items c.requires.segments c.requires.documents c.requires.few
    (well-in-range _ c.args.index.collection c.stands_for_a_collection.ensures.well_formed)

pub returns-clause-documents : goal.returns-clause-documents
returns-clause-documents c =
    documents-more c.args.segments.items c.push.new.self.items _ c.args.documents _ c.in_ok-push.ensures.items c.requires.documents (ap (λ n. c.args.documents + n) c.documents.ensures)

pub returns-clause-collections : goal.returns-clause-collections
returns-clause-collections c =
    collections-more c.args.segments.items c.push.new.self.items _ c.in_ok-push.ensures.items
