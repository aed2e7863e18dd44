use Rattle.std.proofs.Common.{◌≡◌, sym, ap, ◌∙◌, subst, arith}
use Rattle.part_cost.specs.Formats.{numbers_of}
use Rattle.part_directory.specs.DirectorySequence.{words_of, sequence_of}
use Rattle.sequence_words.specs.SequenceFault.{stated_end}
use Rattle.two_level.specs.LongSteps.{IsFirstStep}
use Rattle.two_level.proofs.LongSteps.{first-in_short, first-in_one}
use Rattle.two_level.proofs.PartPlaces.{part-stands}
use Rattle.two_level.proofs.long_steps.first_in_part.Goals as goal

pub overflow_sub-part : goal.overflow_sub-part
overflow_sub-part c = (part-stands _ _ _ c.args.index c.args.part.from c.args.part.to c.args.part.u _ c.args.directory.now.stated c.requires.within c.requires.starts c.requires.ends c.requires.universe).room

pub returns-then-part-count : goal.returns-then-part-count
returns-then-part-count c =
    let p = part-stands _ _ _ c.args.index c.args.part.from c.args.part.to c.args.part.u _ c.args.directory.now.stated c.requires.within c.requires.starts c.requires.ends c.requires.universe in
    first-in_short (sequence_of c.args.directory.now).values c.args.directory.now.stated.rising c.args.part.from c.args.part.to c.args.from c.args.least c.requires.after (omega (arith, c.requires.some)) p.within (omega (arith, p.wide, c.if-part-count.true))

pub returns-then-count-eq1 : goal.returns-then-count-eq1
returns-then-count-eq1 c =
    let p = part-stands _ _ _ c.args.index c.args.part.from c.args.part.to c.args.part.u _ c.args.directory.now.stated c.requires.within c.requires.starts c.requires.ends c.requires.universe in
    first-in_one (sequence_of c.args.directory.now).values c.args.part.from c.args.part.to c.args.from c.args.least c.requires.after c.requires.some p.within c.if-count-eq1.true (omega (arith, p.wide, p.room, c.if-part-count.false, c.if-count-eq1.true))

pub returns-else-count-eq1 : goal.returns-else-count-eq1
returns-else-count-eq1 c =
    let held = c.hold.ensures.held in
    let to : c.hold.result.part.to ≡ c.args.part.to = held.to ∙ ap (stated_end (numbers_of c.args.directory.now.format) (words_of c.args.directory.now)) c.hold.ensures.index ∙ sym c.requires.ends in
    subst (λ n. IsFirstStep (sequence_of c.args.directory.now).values c.args.from n c.args.least c.first_in_values.result) to (c.first_in_values.ensures (sequence_of c.args.directory.now).values held.values c.args.directory.now.stated.rising)
