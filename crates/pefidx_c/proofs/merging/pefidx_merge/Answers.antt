use Rattle.std.proofs.Common.{length, sym, ◌∙◌, arith}
use Rattle.pefidx_c.proofs.SegmentsFit.{places-none, places-number}
use Rattle.pefidx_c.proofs.merging.pefidx_merge.Goals as goal

pub merged_words-requires-clause-indexes : goal.merged_words-requires-clause-indexes
merged_words-requires-clause-indexes c =
    let within = (places-none (length c.args.words.now) c.args.segments.now (sym c.places_refusal.ensures ∙ c.in_default.is)).1 in
    record { few = c.requires.few; within = within; indexes = λ k d lt. c.requires.indexes k d lt (within k d lt) }

pub merged_words-requires-clause-count : goal.merged_words-requires-clause-count
merged_words-requires-clause-count c =
    (places-none (length c.args.words.now) c.args.segments.now (sym c.places_refusal.ensures ∙ c.in_default.is)).0

pub returns-in-Some-clause-no_join : goal.returns-in-Some-clause-no_join
returns-in-Some-clause-no_join c = λ is.
    let number = places-number (length c.args.words.now) c.args.segments.now c.in-Some.refused (sym c.places_refusal.ensures ∙ c.in-Some.is) in
    absurd (omega (arith, number, c.number.ensures, is))

pub returns-in-Some-clause-no_memory : goal.returns-in-Some-clause-no_memory
returns-in-Some-clause-no_memory c = λ is.
    let number = places-number (length c.args.words.now) c.args.segments.now c.in-Some.refused (sym c.places_refusal.ensures ∙ c.in-Some.is) in
    absurd (omega (arith, number, c.number.ensures, is))

pub returns-in-Some-clause-too_large : goal.returns-in-Some-clause-too_large
returns-in-Some-clause-too_large c = λ is.
    let number = places-number (length c.args.words.now) c.args.segments.now c.in-Some.refused (sym c.places_refusal.ensures ∙ c.in-Some.is) in
    absurd (omega (arith, number, c.number.ensures, is))
