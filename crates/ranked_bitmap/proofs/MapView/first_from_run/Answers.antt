use Rattle.std.proofs.Common.{◌*◌, ◌<◌, arith}
use Rattle.ranked_bitmap.proofs.Views.{more-numbers, run-within}
use Rattle.ranked_bitmap.proofs.MapView.first_from_run.Goals as goal

pub number_behind-requires : goal.number_behind-requires
number_behind-requires g c =
    let v = c.args.self.now in
    let ys = c.requires.held.0 in
    let h = c.requires.held.1 in
    let inside : g.row.B * c.args.run < v.part.u = run-within g.row.B c.args.run v.part.u (omega (arith, v.part.some, v.part.fit)) c.requires.within in
    (omega arith, (c.requires.held, (omega (arith, c.ones_before_run-k.ensures, more-numbers g.row.B v ys h (g.row.B * c.args.run) inside), c.start_of_run.ensures)))
