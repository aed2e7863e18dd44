use Rattle.std.proofs.Common.{sym}
use Rattle.part_cost.specs.Formats.{numbers_of}
use Rattle.part_directory.proofs.Probes.{count-lasts}
use Rattle.part_directory.specs.DirectorySequence.{words_of}
use Rattle.part_directory.proofs.directory.EntriesInWordsLasts.parts.Goals as goal

pub returns : goal.returns
returns c = let d = c.args.self.now.directory.now in sym (count-lasts (numbers_of d.format) (words_of d) d.parts)
