use Rattle.std.proofs.Common.{◌≡◌, map, take}
use Rattle.query_text.specs.Weights.{weight_of}
use Rattle.query_text.proofs.weighted_terms.add_weights.Given as goal

abbrev pub invariant-loop-term : goal.invariant-loop-term
invariant-loop-term l = l.weights ≡ map (weight_of (take l.term-index l.fields)) l.terms
