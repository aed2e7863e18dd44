use Rattle.std.proofs.Common.{arith}
use Rattle.part_cost.specs.Formats.{numbers_of}
use Rattle.part_directory.proofs.Probes.{count-lasts}
use Rattle.part_directory.specs.DirectorySequence.{words_of}
use Rattle.part_directory.proofs.directory.galloped.Goals as goal

pub gallop-requires : goal.gallop-requires
gallop-requires g c = omega (arith, c.requires.within, count-lasts (numbers_of c.args.directory.now.format) (words_of c.args.directory.now) c.args.directory.now.parts)
