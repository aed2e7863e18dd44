use Rattle.std.proofs.Common.{ℕ, List, arith}
use Rattle.elias_fano.specs.EfView.{Holds}
use Rattle.elias_fano.proofs.Passing.{past-number}
use Rattle.elias_fano.proofs.Numbered.{past-to-one}
use Rattle.elias_fano.proofs.EfView.pass_gap.Goals as goal

pub pass_all_zeros-requires : goal.pass_all_zeros-requires
pass_all_zeros-requires g c =
    let v = c.args.self.now in
    let past = λ (ys : List ℕ) (h : Holds g.row.Q v ys). past-number v.part.place v.part.m v.low ys h.values.rising h.values.count c.args.passed c.next_one-one.result c.requires.some (c.next_one-one.ensures ys h) in
    (omega arith, (c.requires.held, (c.requires.within, (c.requires.reached, (past, omega (arith, c.if-one-self.false))))))

pub returns-then-one-self-clause-past : goal.returns-then-one-self-clause-past
returns-then-one-self-clause-past g c = λ ys h.
    past-to-one g.row.Q c.args.self.now ys h c.args.passed c.args.place c.next_one-one.result c.requires.some (c.requires.past ys h) (c.next_one-one.ensures ys h)
