use Rattle.std.proofs.Common.{◌≡◌, ◌+◌, sym, ap, subst, ◌∙◌, add-one}
use Rattle.part_cost.specs.Span.{universe}
use Rattle.two_level.proofs.LongSteps.{step-at}
use Rattle.two_level.proofs.view.SeqView.step.Goals as goal

pub returns : goal.returns
returns c =
    let xs = c.args.self.now.values in
    let k = c.args.k in
    subst (λ v. c.step_at.result ≡ universe v.values k (k + 1)) c.self.view_is c.step_at.ensures
    ∙ ap (universe xs k) (add-one k) ∙ sym (step-at xs k c.requires.within)
