use Rattle.std.proofs.Common.{ℕ, List, arith}
use Rattle.part_cost.specs.Formats.{numbers_of}
use Rattle.part_directory.specs.DirectorySequence.{words_of}
use Rattle.sequence_words.specs.SequenceView.{lasts_stated}
use Rattle.part_directory.proofs.Places.{place-within}
use Rattle.part_directory.proofs.Probes.{count-lasts, stated-before, stated-reached}
use Rattle.part_directory.proofs.directory.Directory.part_reaching.Goals as goal

pub returns-in-None-clause-after : goal.returns-in-None-clause-after
returns-in-None-clause-after c = omega (arith, c.galloped.ensures)

pub returns-in-None-clause-within : goal.returns-in-None-clause-within
returns-in-None-clause-within c =
    let lasts : List ℕ = lasts_stated (numbers_of c.args.self.now.format) (words_of c.args.self.now) c.args.self.now.parts in
    let count = count-lasts (numbers_of c.args.self.now.format) (words_of c.args.self.now) c.args.self.now.parts in
    omega (arith, c.galloped.ensures, count, place-within lasts c.args.part c.args.x (omega (arith, count, c.requires.within)))

pub returns-in-None-clause-before : goal.returns-in-None-clause-before
returns-in-None-clause-before c lt = stated-before (numbers_of c.args.self.now.format) (words_of c.args.self.now) c.args.self.now.parts c.args.part c.galloped.result c.args.x c.requires.within c.galloped.ensures lt

pub returns-in-None-clause-reached : goal.returns-in-None-clause-reached
returns-in-None-clause-reached c lt = stated-reached (numbers_of c.args.self.now.format) (words_of c.args.self.now) c.args.self.now.parts c.args.part c.galloped.result c.args.x c.requires.within c.galloped.ensures lt
