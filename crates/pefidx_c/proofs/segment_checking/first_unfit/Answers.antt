use Rattle.std.proofs.Common.{◌∙◌, sym, get_or, arith}
use Rattle.pefidx_c.specs.declared.segment.Segment.{Segment}
use Rattle.pefidx_c.specs.Segments.{no_segment}
use Rattle.pefidx_c.proofs.SegmentsFit.{checked-all, checked-more, checked-none, first-unfit, own-few, same-item}
use Rattle.pefidx_c.proofs.segment_checking.first_unfit.Goals as goal

pub loop-s-init : goal.loop-s-init
loop-s-init c = checked-none c.args.words.now c.args.segments.now _ c.requires.few c.new-joined.ensures

pub words_of-requires : goal.words_of-requires
words_of-requires c = c.requires.within c.loop-s.s no_segment c.loop-s-test.true

pub unfit_behind-unfit-requires : goal.unfit_behind-unfit-requires
unfit_behind-unfit-requires c = own-few c.args.words.now c.words_of.result.now (get_or c.args.segments.now c.loop-s.s no_segment) c.requires.few (c.requires.within c.loop-s.s no_segment c.loop-s-test.true) c.words_of.ensures

pub returns-then-is_some-clause-unfit : goal.returns-then-is_some-clause-unfit
returns-then-is_some-clause-unfit c =
    let s : Segment = get_or c.args.segments.now c.loop-s.s no_segment in
    first-unfit c.args.words.now c.words_of.result.now c.args.segments.now c.loop-s.s s c.loop-s.joined c.unfit_behind-unfit.result c.loop-s-test.true
    (same-item c.args.segments.now c.loop-s.s no_segment s c.loop-s-test.true) c.words_of.ensures c.loop-s.invariant c.unfit_behind-unfit.ensures.unfit

pub loop-s-preserved : goal.loop-s-preserved
loop-s-preserved c =
    let s : Segment = get_or c.args.segments.now c.loop-s.s no_segment in
    checked-more c.args.words.now c.words_of.result.now c.args.segments.now c.loop-s.s s c.loop-s.joined c.unfit_behind-unfit.new.joined c.unfit_behind-unfit.result c.loop-s-test.true
    (same-item c.args.segments.now c.loop-s.s no_segment s c.loop-s-test.true) c.words_of.ensures c.requires.within (sym c.is_some.ensures ∙ c.if-is_some.false) c.loop-s.invariant
    c.unfit_behind-unfit.ensures.index c.unfit_behind-unfit.ensures.rule c.unfit_behind-unfit.ensures.joined

pub returns-clause-none : goal.returns-clause-none
returns-clause-none c =
    checked-all c.args.words.now c.args.segments.now c.loop-s.s c.loop-s.joined (omega (arith, c.loop-s-test.false)) c.loop-s.invariant
