use Rattle.std.proofs.Common.{◌∙◌, ap, subst, inr, arith}
use Rattle.std.specs.Prelude.{Err}
use Rattle.collection_model.specs.FormatNumbers.{format_three}
use Rattle.index_reading.specs.JoinedSegments as read
use Rattle.segments.specs.Joined.{joined_wide}
use Rattle.segments.specs.Totals.{AreTooFrequent, SumsFit}
use Rattle.pefidx_c.specs.BuiltWords.{WouldBeTooMany}
use Rattle.pefidx_c.proofs.Merged.{few-frequent}
use Rattle.pefidx_c.proofs.merging.merged_words.Goals as goal

pub overflow_cast-s : goal.overflow_cast-s
overflow_cast-s c =
    let frequent = c.too_frequent.ensures.some c.in-Some-too_frequent.s c.in-Some-too_frequent.is in
    omega (arith, few-frequent c.args.words.now c.args.segments.now (read.collections_in c.in-Ok.joined.segments.items) c.in-Some-too_frequent.s c.in-Ok.ensures c.requires.count frequent)

pub returns-in-Some-too_frequent-clause-unmerged : goal.returns-in-Some-too_frequent-clause-unmerged
returns-in-Some-too_frequent-clause-unmerged c =
    let frequent = subst (λ ds. AreTooFrequent ds c.in-Some-too_frequent.s) c.in-Ok.ensures (c.too_frequent.ensures.some c.in-Some-too_frequent.s c.in-Some-too_frequent.is) in
    inr (c.in-Some-too_frequent.s, c.in_default.ensures.none, frequent, c.unjoined_at-in-Some-too_frequent.ensures)

pub returns-in-Err-TooLarge-clause-unmerged : goal.returns-in-Err-TooLarge-clause-unmerged
returns-in-Err-TooLarge-clause-unmerged c =
    let sums = subst SumsFit c.in-Ok.ensures (c.too_frequent.ensures.none c.in_default-too_frequent.is) in
    let would = c.words_of_joined.ensures.too_large c.in-Err-TooLarge.would_be (c.in-Err-TooLarge.is ∙ ap Err c.in-Err-TooLarge.field-0-is) in
    (record { documents = c.in_default.ensures.none; sums = sums }, subst (λ ds. WouldBeTooMany format_three (joined_wide ds) c.in-Err-TooLarge.would_be) c.in-Ok.ensures would)
