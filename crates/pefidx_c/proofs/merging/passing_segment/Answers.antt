use Rattle.std.proofs.Common.{◌+◌, ◌∙◌, ap, subst, sym, refl, get_or, arith}
use Rattle.part_cost.specs.Formats.{numbers_of}
use Rattle.index_file.specs.FileWords.{IsIndex}
use Rattle.index_file.specs.IndexView.{IndexView}
use Rattle.pefidx_c.specs.declared.segment.Segment.{Segment}
use Rattle.pefidx_c.specs.Segments.{no_segment}
use Rattle.pefidx_c.specs.Asked.{collection_in}
use Rattle.pefidx_c.proofs.Merged.{counted-all, counted-more, counted-none, counted-passed}
use Rattle.pefidx_c.proofs.SegmentsFit.{own-few, same-item}
use Rattle.pefidx_c.proofs.merging.passing_segment.Goals as goal

pub loop-s-init : goal.loop-s-init
loop-s-init c = counted-none c.args.words.now c.args.segments.now

pub words_of-requires : goal.words_of-requires
words_of-requires c = c.requires.indexes.within c.loop-s.s no_segment c.loop-s-test.true

pub known-index-requires-clause-words : goal.known-index-requires-clause-words
known-index-requires-clause-words c =
    own-few c.args.words.now c.words_of.result.now (get_or c.args.segments.now c.loop-s.s no_segment) c.requires.indexes.few (c.requires.indexes.within c.loop-s.s no_segment c.loop-s-test.true) c.words_of.ensures

pub known-index-requires-clause-index : goal.known-index-requires-clause-index
known-index-requires-clause-index c = subst IsIndex (sym c.words_of.ensures) (c.requires.indexes.indexes c.loop-s.s no_segment c.loop-s-test.true)

pub overflow_add-total : goal.overflow_add-total
overflow_add-total c = omega (arith, c.loop-s.invariant.few, c.from-total.ensures, c.documents.type_inv)

pub returns-then-total-gt-MOST_DOCUMENTS-clause-some : goal.returns-then-total-gt-MOST_DOCUMENTS-clause-some
returns-then-total-gt-MOST_DOCUMENTS-clause-some c =
    let s : Segment = get_or c.args.segments.now c.loop-s.s no_segment in
    counted-passed c.args.words.now c.args.segments.now c.loop-s.s c.loop-s.total (c.loop-s.total + c.from-total.result) c.from-total.result s c.known-index.result.collection c.loop-s-test.true
    (same-item c.args.segments.now c.loop-s.s no_segment s c.loop-s-test.true) (ap (λ (i : IndexView). i.collection) c.known-index.ensures.stated ∙ ap collection_in c.words_of.ensures) (c.from-total.ensures ∙ c.documents.ensures) refl (omega (arith, c.if-total-gt-MOST_DOCUMENTS.true)) c.loop-s.invariant

pub loop-s-preserved : goal.loop-s-preserved
loop-s-preserved c =
    let s : Segment = get_or c.args.segments.now c.loop-s.s no_segment in
    counted-more (numbers_of c.known-index.result.format) c.args.words.now c.args.segments.now c.loop-s.s c.loop-s.total (c.loop-s.total + c.from-total.result) c.from-total.result s c.known-index.result.collection
    c.loop-s-test.true (same-item c.args.segments.now c.loop-s.s no_segment s c.loop-s-test.true) (ap (λ (i : IndexView). i.collection) c.known-index.ensures.stated ∙ ap collection_in c.words_of.ensures) (c.from-total.ensures ∙ c.documents.ensures) refl (omega (arith, c.if-total-gt-MOST_DOCUMENTS.false))
    c.stands_for_a_collection.ensures.well_formed c.loop-s.invariant

pub returns-clause-none : goal.returns-clause-none
returns-clause-none c = (counted-all c.args.words.now c.args.segments.now c.loop-s.s c.loop-s.total (omega (arith, c.loop-s-test.false)) c.loop-s.invariant).0

pub returns-clause-formed : goal.returns-clause-formed
returns-clause-formed c = (counted-all c.args.words.now c.args.segments.now c.loop-s.s c.loop-s.total (omega (arith, c.loop-s-test.false)) c.loop-s.invariant).1
