use Rattle.std.proofs.Common.{arith}
use Rattle.elias_fano.proofs.Views.{within-held}
use Rattle.elias_fano.proofs.Numbered.{nth-next, past-inside}
use Rattle.elias_fano.proofs.EfView.one_behind.Goals as goal

pub overflow_add-from : goal.overflow_add-from
overflow_add-from g c =
    omega (arith, past-inside g.row.Q c.args.self.now c.requires.held.0 c.requires.held.1 c.args.passed c.args.from (omega (arith, c.requires.within, c.requires.ordered)) (c.requires.past c.requires.held.0 c.requires.held.1), within-held g.row.Q c.args.self.now c.requires.held.0 c.requires.held.1, c.args.self.now.part.few_words)

pub low_fields-requires : goal.low_fields-requires
low_fields-requires g c = (omega arith, within-held g.row.Q c.args.self.now c.requires.held.0 c.requires.held.1)

pub nth_one-requires-clause-ordered : goal.nth_one-requires-clause-ordered
nth_one-requires-clause-ordered g c =
    omega (arith, c.min-near.ensures, c.low_fields.ensures, past-inside g.row.Q c.args.self.now c.requires.held.0 c.requires.held.1 c.args.passed c.args.from (omega (arith, c.requires.within, c.requires.ordered)) (c.requires.past c.requires.held.0 c.requires.held.1))

pub nth_one-requires-clause-range : goal.nth_one-requires-clause-range
nth_one-requires-clause-range g c =
    omega (arith, c.min-near.ensures, c.low_fields.ensures, within-held g.row.Q c.args.self.now c.requires.held.0 c.requires.held.1)

pub returns-in-Some : goal.returns-in-Some
returns-in-Some g c = λ ys h.
    nth-next g.row.Q c.args.self.now ys h c.args.passed c.args.from c.min-near.result c.args.k c.in-Some.one (c.requires.past ys h) c.requires.ordered (omega (arith, c.min-near.ensures, c.low_fields.ensures)) c.in-Some.ensures.some
