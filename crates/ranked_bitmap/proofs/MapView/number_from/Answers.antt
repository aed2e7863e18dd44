use Rattle.std.proofs.Common.{◌+◌, ◌*◌, ◌/◌, arith}
use Rattle.ranked_bitmap.proofs.Views.{within-held, number-found, first-within}
use Rattle.ranked_bitmap.proofs.MapView.number_from.Goals as goal

pub returns-in-Some : goal.returns-in-Some
returns-in-Some g c = λ ys h.
    let v = c.args.self.now in
    number-found g.row.B v ys h c.args.least c.in-Some.one c.requires.within
    (first-within g.row.B v ys h c.args.least ((v.part.place + c.args.least) / 64 * 64 + 64) c.in-Some.one c.requires.within c.in-Some.ensures.first)

pub next_one-requires-clause-range : goal.next_one-requires-clause-range
next_one-requires-clause-range g c = omega (arith, within-held g.row.B c.args.self.now c.requires.held.0 c.requires.held.1)
