use Rattle.std.proofs.Common.{arith}
use Rattle.pefidx_c.proofs.Refusals.{sum-fits}
use Rattle.pefidx_c.proofs.ranking.total.Goals as goal

pub overflow_add-total : goal.overflow_add-total
overflow_add-total c =
    let fits =
    sum-fits c.args.weights.now c.loop-weight.weight-index c.loop-weight.total c.from-total.result c.loop-weight-test.true (omega (arith, c.requires))
    (λ k. omega (arith, c.type_inv.weights k)) c.loop-weight.invariant c.from-total.ensures in
    omega (arith, fits)
