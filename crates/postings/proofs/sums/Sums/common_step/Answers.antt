use Rattle.std.proofs.Common.{◌≡◌, ◌≤◌, sym, ap, subst}
use Rattle.two_level.specs.LongSteps.{count_reaching, steps_of_long_parts}
use Rattle.two_level.specs.SequenceView.{SequenceView, SequencePlace}
use Rattle.postings.proofs.sums.Sums.common_step.Goals as goal

pub returns-clause-longest : goal.returns-clause-longest
returns-clause-longest c few least reached =
    let here : c.args.self.now.sequence ≡ c.self.inside.view = ap (λ (p : SequencePlace). p.sequence) (sym c.self.view_is) in
    c.common_step.ensures.longest few least (subst (λ (v : SequenceView). c.args.k ≤ count_reaching least (steps_of_long_parts v)) here reached)
