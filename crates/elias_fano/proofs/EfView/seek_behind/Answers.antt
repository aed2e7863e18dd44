use Rattle.std.proofs.Common.{arith}
use Rattle.elias_fano.proofs.Numbered.{zeros-first}
use Rattle.elias_fano.proofs.EfView.seek_behind.Goals as goal

pub returns-then-k-from-clause-first : goal.returns-then-k-from-clause-first
returns-then-k-from-clause-first g c = λ ys h.
    zeros-first g.row.Q c.args.self.now ys h c.args.from c.args.high c.pass_zeros-k.result.0 c.pass_zeros-k.result.1 c.args.from c.pass_zeros-k.ensures.within c.requires.within (omega arith) (omega arith) (c.pass_zeros-k.ensures.past ys h) c.pass_zeros-k.ensures.zeros
    (λ j after before. absurd (omega arith))

pub returns-else-k-from-clause-first : goal.returns-else-k-from-clause-first
returns-else-k-from-clause-first g c = λ ys h.
    let z = c.pass_zeros-k in
    zeros-first g.row.Q c.args.self.now ys h c.args.from c.args.high z.result.0 z.result.1 z.result.0 z.ensures.within z.ensures.within (omega arith) (omega (arith, c.if-k-from.false)) (z.ensures.past ys h) z.ensures.zeros
    (z.ensures.below ys h)
