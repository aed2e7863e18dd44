use Rattle.std.proofs.Common.{arith}
use Rattle.elias_fano.proofs.Views.{within-held}
use Rattle.elias_fano.proofs.EfView.ones_near.Goals as goal

pub low_fields-requires : goal.low_fields-requires
low_fields-requires g c = (omega arith, within-held g.row.Q c.args.self.now c.requires.held.0 c.requires.held.1)

pub ones_from-requires-clause-range : goal.ones_from-requires-clause-range
ones_from-requires-clause-range g c = omega (arith, c.min-end.ensures, c.low_fields.ensures, within-held g.row.Q c.args.self.now c.requires.held.0 c.requires.held.1)
