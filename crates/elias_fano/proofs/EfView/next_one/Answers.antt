use Rattle.std.proofs.Common.{refl, arith}
use Rattle.elias_fano.proofs.Views.{within-held}
use Rattle.elias_fano.proofs.Numbered.{one-near, past-inside}
use Rattle.elias_fano.proofs.EfView.next_one.Goals as goal

pub overflow_add-from : goal.overflow_add-from
overflow_add-from g c =
    omega (arith, past-inside g.row.Q c.args.self.now c.requires.held.0 c.requires.held.1 c.args.k c.args.from c.requires.within (c.requires.past c.requires.held.0 c.requires.held.1), within-held g.row.Q c.args.self.now c.requires.held.0 c.requires.held.1, c.args.self.now.part.few_words)

pub low_fields-requires : goal.low_fields-requires
low_fields-requires g c = (omega arith, within-held g.row.Q c.args.self.now c.requires.held.0 c.requires.held.1)

pub next_one-requires-clause-ordered : goal.next_one-requires-clause-ordered
next_one-requires-clause-ordered g c =
    omega (arith, c.min-near.ensures, c.low_fields.ensures, past-inside g.row.Q c.args.self.now c.requires.held.0 c.requires.held.1 c.args.k c.args.from c.requires.within (c.requires.past c.requires.held.0 c.requires.held.1))

pub next_one-requires-clause-range : goal.next_one-requires-clause-range
next_one-requires-clause-range g c =
    omega (arith, c.min-near.ensures, c.low_fields.ensures, within-held g.row.Q c.args.self.now c.requires.held.0 c.requires.held.1)

pub returns-in-Some : goal.returns-in-Some
returns-in-Some g c = λ ys h.
    (one-near g.row.Q c.args.self.now ys h c.args.k refl (omega (arith, c.min-near.ensures, c.low_fields.ensures)) (c.requires.past ys h) c.in-Some.ensures.first).1
