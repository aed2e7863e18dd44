use Rattle.std.proofs.Common.{◌∙◌}
use Rattle.bit_words.proofs.Words.{lowest-ones}
use Rattle.bit_words.proofs.reader.lowest.Goals as goal

pub returns : goal.returns
returns c = c.unwrap_or.ensures ∙ lowest-ones c.checked_shr.result c.args.width c.requires.width c.checked_shr.ensures
