use Rattle.std.proofs.Common.{ℕ, ap, sym, ◌∙◌, subst, unwrap_or}
use Rattle.memory_io.specs.Files.{IsFirst}
use Rattle.memory_io.proofs.steady_depot.SteadyDepotDepot.write.Goals as goal

pub invariant_of-self-clause-writes_first : goal.invariant_of-self-clause-writes_first
invariant_of-self-clause-writes_first c at e =
    let P : ℕ → Type 0 = λ i. IsFirst c.append.new.self.list.items i in
    subst P (ap (λ o. unwrap_or o 0) (sym c.in-Some.is ∙ e)) c.append.ensures.first
