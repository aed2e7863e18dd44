use Rattle.std.proofs.Common.{◌≡◌, ◌≤◌, subst}
use Rattle.two_level.specs.LongSteps.{count_reaching, steps_of_long_parts}
use Rattle.two_level.specs.SequenceView.{SequenceView}
use Rattle.packed_sequence.proofs.later.LaterView.common_step.Goals as goal

pub returns-in-Read-clause-longest : goal.returns-in-Read-clause-longest
returns-in-Read-clause-longest c few least reached =
    let here : c.args.self.now ≡ c.in-Read.view = cc in
    c.common_step.ensures.longest few least (subst (λ (v : SequenceView). c.args.k ≤ count_reaching least (steps_of_long_parts v)) here reached)

pub returns-in-Unread-clause-longest : goal.returns-in-Unread-clause-longest
returns-in-Unread-clause-longest c few least reached =
    let here : c.args.self.now ≡ c.view.result = cc in
    c.common_step-in-Unread.ensures.longest few least (subst (λ (v : SequenceView). c.args.k ≤ count_reaching least (steps_of_long_parts v)) here reached)
