use Rattle.std.proofs.Common.{subst}
use Rattle.part_cost.specs.declared.formats.Format.{Format}
use Rattle.part_cost.specs.Formats.{numbers_of}
use Rattle.pefidx_c.specs.BuiltWords.{WouldBeTooMany}
use Rattle.pefidx_c.specs.GivenLists.{collection_given}
use Rattle.pefidx_c.proofs.building.built_counted.Goals as goal

pub returns-in-Ok-clause-too_large : goal.returns-in-Ok-clause-too_large
returns-in-Ok-clause-too_large g c = λ n is.
    let W : Format → Type 0 = λ format. WouldBeTooMany (numbers_of format) (collection_given c.args.given.lengths.now c.args.given.docs.now c.args.given.freqs.now c.args.given.sizes.now) n in
    subst W c.in-Ok.ensures.format (c.words_of.ensures.too_large n is)
