use Rattle.std.proofs.Common.{sym, ◌∙◌}
use Rattle.part_directory.specs.DirectorySequence.{sequence_of}
use Rattle.two_level.proofs.Steps.{step-of-full, step-of-one}
use Rattle.two_level.proofs.PartPlaces.{part-stands}
use Rattle.two_level.proofs.stepping.step_in_part.Goals as goal

pub returns-then-part-count : goal.returns-then-part-count
returns-then-part-count c =
    let p = part-stands _ _ _ c.args.index c.args.part.from c.args.part.to c.args.part.u _ c.args.directory.now.stated c.requires.within c.requires.starts c.requires.ends c.requires.universe in
    sym (step-of-full (sequence_of c.args.directory.now).values c.args.directory.now.stated.rising c.args.part.from c.args.part.to c.args.from c.args.to c.requires.after c.requires.some c.requires.before p.within (p.wide ∙ c.if-part-count.true))

pub returns-then-count-eq1 : goal.returns-then-count-eq1
returns-then-count-eq1 c =
    let p = part-stands _ _ _ c.args.index c.args.part.from c.args.part.to c.args.part.u _ c.args.directory.now.stated c.requires.within c.requires.starts c.requires.ends c.requires.universe in
    sym p.wide ∙ sym (step-of-one (sequence_of c.args.directory.now).values c.args.part.from c.args.part.to c.args.from c.args.to c.requires.after c.requires.some c.requires.before p.within c.if-count-eq1.true)
