use Rattle.std.proofs.Common.{sym}
use Rattle.exported_files.proofs.sequences.give_freqs_at.Goals as goal

pub returns-then-t-walked : goal.returns-then-t-walked
returns-then-t-walked g c = rw (c.requires.rest c.if-t-walked.true) c.give.ensures

pub returns : goal.returns
returns g c = rw (sym c.cursor-cursor.ensures.list) c.give_freqs_of.ensures
