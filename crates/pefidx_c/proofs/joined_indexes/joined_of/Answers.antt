use Rattle.std.proofs.Common.{◌∙◌, ap, subst, sym, get_or, arith}
use Rattle.index_file.specs.FileWords.{IsIndex}
use Rattle.index_reading.specs.JoinedSegments as read
use Rattle.pefidx_c.specs.declared.segment.Segment.{Segment}
use Rattle.pefidx_c.specs.Asked.{collection_in}
use Rattle.pefidx_c.specs.Segments.{no_segment}
use Rattle.pefidx_c.proofs.JoinedSegments.{documents-fit, joined-all, joined-more, kept-next}
use Rattle.pefidx_c.proofs.SegmentsFit.{same-item}
use Rattle.pefidx_c.proofs.joined_indexes.joined_of.Goals as goal

pub index_of-requires-clause-index : goal.index_of-requires-clause-index
index_of-requires-clause-index c = subst IsIndex (sym c.words_of-own.ensures) (c.requires.indexes.indexes c.loop-s.s no_segment c.loop-s-test.true)

pub with-requires : goal.with-requires
with-requires c =
    let s : Segment = get_or c.args.segments.now c.loop-s.s no_segment in
    documents-fit c.args.words.now c.args.segments.now c.loop-s.s s (read.collections_in c.loop-s.joined.segments.items) c.index_of.result.collection c.requires.few c.loop-s-test.true
    (same-item c.args.segments.now c.loop-s.s no_segment s c.loop-s-test.true) c.loop-s.invariant.joined (c.index_of.ensures.collection ∙ ap collection_in c.words_of-own.ensures)

pub loop-s-preserved : goal.loop-s-preserved
loop-s-preserved c =
    let s : Segment = get_or c.args.segments.now c.loop-s.s no_segment in
    let is = same-item c.args.segments.now c.loop-s.s no_segment s c.loop-s-test.true in
    record {
      joined = joined-more c.args.words.now c.args.segments.now c.loop-s.s s (read.collections_in c.loop-s.joined.segments.items) (read.collections_in c.in_ok-joined-2.joined.segments.items)
          c.index_of.result.collection c.loop-s-test.true is c.loop-s.invariant.joined c.in_ok-joined-2.ensures (c.index_of.ensures.collection ∙ ap collection_in c.words_of-own.ensures);
      kept = kept-next c.args.words.now c.args.segments.now c.loop-s.s s c.loop-s.rest.now c.first_kept.result.0.now c.first_kept.result.1.now c.loop-s-test.true is
          c.loop-s.invariant.kept c.first_kept.ensures.none c.first_kept.ensures.first;
    }

pub returns : goal.returns
returns c =
    joined-all c.args.words.now c.args.segments.now c.loop-s.s (read.collections_in c.loop-s.joined.segments.items) (omega (arith, c.loop-s-test.false)) c.loop-s.invariant.joined
