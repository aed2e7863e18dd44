use Rattle.std.proofs.Common.{ℕ, ap, subst, unwrap_or}
use Rattle.memory_io.specs.Files.{IsFirst}
use Rattle.memory_io.proofs.steady_depot.SteadyDepotDepot.create.Goals as goal

pub invariant_of-self-clause-writes_first : goal.invariant_of-self-clause-writes_first
invariant_of-self-clause-writes_first c at e =
    let P : ℕ → Type 0 = λ i. IsFirst c.make_empty.new.self.list.items i in
    subst P (ap (λ o. unwrap_or o 0) e) c.in-Ok.ensures.put.first
