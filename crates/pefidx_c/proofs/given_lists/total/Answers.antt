use Rattle.std.proofs.Common.{arith}
use Rattle.pefidx_c.proofs.Refusals.{sum-fits}
use Rattle.pefidx_c.proofs.given_lists.total.Goals as goal

pub overflow_add-total : goal.overflow_add-total
overflow_add-total c =
    let fits =
    sum-fits c.args.lengths.now c.loop-length.length-index c.loop-length.total c.from-total.result c.loop-length-test.true c.requires
    (λ k. omega (arith, c.type_inv.lengths k)) c.loop-length.invariant c.from-total.ensures in
    omega (arith, fits)
