use Rattle.packed_list.proofs.NearGammas.{lowest-none, lowest-is}
use Rattle.packed_list.proofs.gamma.lowest_gamma.Goals as goal

pub returns-then-zeros-ge16-clause-none : goal.returns-then-zeros-ge16-clause-none
returns-then-zeros-ge16-clause-none c = λ n h. lowest-none c.args.word n c.ranges.word.fits c.if-zeros-ge16.true h

pub returns-clause-some : goal.returns-clause-some
returns-clause-some c = (lowest-is c.args.word c.from.result c.ranges.word.fits c.if-zeros-ge16.false c.from.ensures).stands

pub returns-clause-behind : goal.returns-clause-behind
returns-clause-behind c = (lowest-is c.args.word c.from.result c.ranges.word.fits c.if-zeros-ge16.false c.from.ensures).length_is
