use Rattle.part_cost.specs.Formats.{numbers_of}
use Rattle.part_directory.proofs.HeldParts.{part-of}
use Rattle.part_directory.specs.DirectorySequence.{words_of}
use Rattle.part_directory.proofs.directory.Directory.part_at.Goals as goal

pub returns : goal.returns
returns c =
    let d = c.args.self.now.stated in
    let s = c.stated_part.ensures in
    part-of (numbers_of c.args.self.now.format) (words_of c.args.self.now) c.args.self.now.parts c.args.part c.requires.within (d.part c.args.part c.requires.within) c.stated_part.result.0 s.from s.to s.last s.u
