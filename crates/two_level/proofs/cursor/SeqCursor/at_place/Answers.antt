use Rattle.std.proofs.Common.{sym}
use Rattle.part_cost.specs.Formats.{numbers_of}
use Rattle.part_directory.proofs.Standing.{place-here}
use Rattle.part_directory.specs.DirectorySequence.{words_of}
use Rattle.two_level.proofs.cursor.SeqCursor.at_place.Goals as goal

pub returns-clause-place : goal.returns-clause-place
returns-clause-place c =
    sym (place-here (numbers_of c.args.directory.format) (words_of c.args.directory) c.args.directory.parts c.args.k c.hold_at-value.result.0 c.hold_at-value.result.1 c.hold_at-value.ensures.lies)
