use Rattle.std.proofs.Common.{arith}
use Rattle.elias_fano.proofs.Views.{within-held}
use Rattle.elias_fano.proofs.Lookups.{number-got, place-below}
use Rattle.elias_fano.proofs.EfView.first.Goals as goal

pub number-requires : goal.number-requires
number-requires g c =
    let v = c.args.self.now in
    let ys = c.requires.held.0 in
    let h = c.requires.held.1 in
    let one = c.next_one.ensures ys h in
    let below = place-below g.row.Q v ys 0 h v.part.some in
    (omega arith, (within-held g.row.Q v ys h, (v.part.some, (omega arith, omega arith))))

pub returns : goal.returns
returns g c = λ ys h.
    number-got g.row.Q c.args.self.now ys 0 c.next_one.result c.number.result h c.args.self.now.part.some (c.next_one.ensures ys h) c.number.ensures.value
