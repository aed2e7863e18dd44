use Rattle.std.proofs.Common.{refl, ap, ◌∙◌, subst, Err}
use Rattle.part_cost.specs.declared.formats.Format.{Format}
use Rattle.part_cost.specs.Formats.{numbers_of}
use Rattle.pefidx_c.specs.BuiltWords.{WouldBeTooMany}
use Rattle.pefidx_c.specs.GivenLists.{collection_given}
use Rattle.pefidx_c.proofs.building.pefidx_build.Goals as goal

pub returns-in-Err-TooLarge-clause-too_large : goal.returns-in-Err-TooLarge-clause-too_large
returns-in-Err-TooLarge-clause-too_large c = λ _.
    let W : Format → Type 0 = λ format. WouldBeTooMany (numbers_of format) (collection_given c.args.lengths.now c.args.docs.now c.args.freqs.now c.args.sizes.now) c.in-Err-TooLarge.would_be in
    (subst W c.format_of-format.ensures (c.built.ensures.too_large c.in-Err-TooLarge.would_be (c.in-Err-TooLarge.is ∙ ap Err c.in-Err-TooLarge.field-0-is)), refl, refl)
