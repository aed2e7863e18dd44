use Rattle.std.proofs.Common.{refl, sym, subst}
use Rattle.part_codec.specs.Forms.{HoldsIn, all_ones}
use Rattle.part_codec.proofs.Steps.{step-all_ones}
use Rattle.part_codec.proofs.views.PartView.check_steps.Goals as goal

pub returns-in-Ones-clause-some : goal.returns-in-Ones-clause-some
returns-in-Ones-clause-some c =
    let v = c.in-Ones.field-0 in
    (all_ones v.u, subst (λ f. HoldsIn f (all_ones v.u)) (sym c.in-Ones.is) refl, step-all_ones v.u v.some)
