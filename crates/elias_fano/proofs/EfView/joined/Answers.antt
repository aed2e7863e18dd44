use Rattle.std.proofs.Common.{◌+◌, ap, arith}
use Rattle.elias_fano.proofs.LowFields.{joined-below, joined-high}
use Rattle.elias_fano.proofs.EfView.joined.Goals as goal

pub overflow_add-result : goal.overflow_add-result
overflow_add-result g c =
    omega (arith, joined-below g.row.Q c.args.self.now c.args.k c.args.one c.args.field c.requires.below c.requires.field, joined-high g.row.Q c.args.self.now c.args.k c.args.one c.args.field c.requires.below c.requires.field)

pub returns : goal.returns
returns g c =
    let whole = joined-high g.row.Q c.args.self.now c.args.k c.args.one c.args.field c.requires.below c.requires.field in
    record {
      value = ap (λ n. n + c.args.field) whole;
      small = omega (arith, joined-below g.row.Q c.args.self.now c.args.k c.args.one c.args.field c.requires.below c.requires.field, whole);
    }
