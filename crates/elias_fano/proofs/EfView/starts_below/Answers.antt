use Rattle.std.proofs.Common.{◌-◌, ◌*◌}
use Rattle.std.proofs.lemmas.Bool.{ltb-true}
use Rattle.elias_fano.proofs.Passing.{passed-below}
use Rattle.elias_fano.proofs.EfView.starts_below.Goals as goal

pub returns : goal.returns
returns g c = λ holds ys h.
    let v = c.args.self.now in
    passed-below v.part.place v.part.m v.low ys h.values.rising h.values.count 0 (g.row.Q * c.args.run) c.start_of_run.result c.args.high (c.start_of_run.ensures ys h) (λ some. ltb-true (c.start_of_run.result - v.part.place - g.row.Q * c.args.run) c.args.high holds)
