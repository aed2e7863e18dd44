use Rattle.std.proofs.Common.{ap, ◌∙◌}
use Rattle.collection_model.specs.Collection.{greatest}
use Rattle.collection_model.specs.Sequences.{steps_from}
use Rattle.part_cost.specs.Span.{past}
use Rattle.two_level.proofs.stepping.step_of_block.Goals as goal

pub returns-clause-step : goal.returns-clause-step
returns-clause-step c xs h is =
    let read = c.read_block-last in
    c.step_of.ensures ∙ ap (λ n. greatest (steps_from n read.new.block)) is ∙ ap (λ ys. greatest (steps_from (past xs c.args.next.place) ys)) (read.ensures.values xs h)
