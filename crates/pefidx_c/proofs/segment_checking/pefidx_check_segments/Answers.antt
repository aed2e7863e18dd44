use Rattle.std.proofs.Common.{length, sym, ◌∙◌, arith}
use Rattle.pefidx_c.proofs.SegmentsFit.{few-words, places-none, refusal-number}
use Rattle.pefidx_c.proofs.segment_checking.pefidx_check_segments.Goals as goal

pub first_unfit-requires-clause-few : goal.first_unfit-requires-clause-few
first_unfit-requires-clause-few c =
    (few-words (length c.args.words.now) c.args.segments.now (sym c.segments_refusal.ensures ∙ c.in_default.is)).0

pub first_unfit-requires-clause-count : goal.first_unfit-requires-clause-count
first_unfit-requires-clause-count c =
    (places-none (length c.args.words.now) c.args.segments.now (few-words (length c.args.words.now) c.args.segments.now (sym c.segments_refusal.ensures ∙ c.in_default.is)).1).0

pub first_unfit-requires-clause-within : goal.first_unfit-requires-clause-within
first_unfit-requires-clause-within c =
    (places-none (length c.args.words.now) c.args.segments.now (few-words (length c.args.words.now) c.args.segments.now (sym c.segments_refusal.ensures ∙ c.in_default.is)).1).1

pub returns-in-Some-clause-done : goal.returns-in-Some-clause-done
returns-in-Some-clause-done c = λ done.
    let number = refusal-number (length c.args.words.now) c.args.segments.now c.in-Some.refused (sym c.segments_refusal.ensures ∙ c.in-Some.is) in
    absurd (omega (arith, number, c.number.ensures, done))

pub returns-in-Some-clause-no_index : goal.returns-in-Some-clause-no_index
returns-in-Some-clause-no_index c = λ done.
    let number = refusal-number (length c.args.words.now) c.args.segments.now c.in-Some.refused (sym c.segments_refusal.ensures ∙ c.in-Some.is) in
    absurd (omega (arith, number, c.number.ensures, done))

pub returns-in-Some-clause-no_join : goal.returns-in-Some-clause-no_join
returns-in-Some-clause-no_join c = λ done.
    let number = refusal-number (length c.args.words.now) c.args.segments.now c.in-Some.refused (sym c.segments_refusal.ensures ∙ c.in-Some.is) in
    absurd (omega (arith, number, c.number.ensures, done))
