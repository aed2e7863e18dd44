use Rattle.topk_pruning.proofs.Near.{swapped-less}
use Rattle.topk_pruning.proofs.essential.take_short.Goals as goal

pub returns-clause-less : goal.returns-clause-less
returns-clause-less g c = swapped-less c.args.terms.now c.swap.new.self c.args.count c.args.place c.swap.ensures.len c.requires.before c.requires.inside c.swap.ensures.by_index c.swap.ensures.permutation
