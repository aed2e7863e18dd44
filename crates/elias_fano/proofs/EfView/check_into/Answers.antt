use Rattle.std.proofs.Common.{arith}
use Rattle.elias_fano.proofs.Views.{within-held}
use Rattle.elias_fano.proofs.EfView.check_into.Goals as goal

pub returns-then-self-len-clause-none : goal.returns-then-self-len-clause-none
returns-then-self-len-clause-none g c = λ ys h. omega (arith, within-held g.row.Q c.args.self.now ys h, c.len.ensures, c.if-self-len.true)
