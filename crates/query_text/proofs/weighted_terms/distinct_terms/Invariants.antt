use Rattle.std.proofs.Common.{◌≡◌, map, take}
use Rattle.query_text.proofs.weighted_terms.distinct_terms.Given as goal

abbrev pub invariant-loop-term : goal.invariant-loop-term
invariant-loop-term l = l.numbers.items ≡ map (λ f. f.0) (take l.term-index l.fields)
