use Rattle.std.proofs.Common.{◌≡◌, ◌≤◌, sym, subst}
use Rattle.part_directory.specs.DirectorySequence.{sequence_of}
use Rattle.sequence_words.specs.SequenceView.{SequenceView}
use Rattle.two_level.specs.LongSteps.{count_reaching, steps_of_long_parts}
use Rattle.two_level.proofs.view.SeqView.common_step.Goals as goal

pub returns-clause-longest : goal.returns-clause-longest
returns-clause-longest c few least reached =
    let here : c.args.self.now ≡ sequence_of c.self.inside.directory = sym c.self.view_is in
    c.common_step_of.ensures.longest few least (subst (λ (v : SequenceView). c.args.k ≤ count_reaching least (steps_of_long_parts v)) here reached)
