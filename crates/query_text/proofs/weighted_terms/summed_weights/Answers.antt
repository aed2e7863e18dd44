use Rattle.std.proofs.Common.{◌∙◌, rules}
use Rattle.query_text.proofs.WeightSums.{weights-none}
use Rattle.query_text.proofs.weighted_terms.summed_weights.Goals as goal

pub add_weights-requires-clause-start : goal.add_weights-requires-clause-start
add_weights-requires-clause-start c = c.as_mut_slice.ensures.value ∙ c.in_ok-weights.ensures.items_if_clones_equal (λ y e. search rules) ∙ weights-none c.args.terms.now
