use Rattle.packed_sequence.proofs.WindowFields.{lowest-kept}
use Rattle.packed_sequence.proofs.view.lowest_bits.Goals as goal

pub returns : goal.returns
returns c = lowest-kept c.args.word c.args.width c.requires.narrow
