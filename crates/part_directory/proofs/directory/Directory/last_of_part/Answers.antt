use Rattle.std.proofs.Common.{ap, arith}
use Rattle.part_cost.specs.Formats.{numbers_of}
use Rattle.part_cost.specs.Span.{past}
use Rattle.part_directory.specs.DirectorySequence.{words_of}
use Rattle.sequence_words.specs.SequenceView.{sequence_stated}
use Rattle.sequence_words.proofs.StatedParts.{stated-ends}
use Rattle.part_directory.proofs.directory.Directory.last_of_part.Goals as goal

pub returns : goal.returns
returns c =
    let format = numbers_of c.args.self.now.format in
    let words = (words_of c.args.self.now) in
    let d = c.args.self.now.stated in
    let p = d.part c.args.part c.requires.within in
    omega (arith, c.entry.ensures.last, p.last, ap (past (sequence_stated format words c.args.self.now.parts).values) (stated-ends format words c.args.self.now.parts c.args.part c.requires.within))
