use Rattle.std.proofs.Common.{length, rules}
use Rattle.std.proofs.lemmas.List.Sorted.{IsNonDecreasingBy-from_sort_by_key}
use Rattle.scan_plans.proofs.docs.shortest_first.Goals as goal

pub returns-clause-rising : goal.returns-clause-rising
returns-clause-rising g c = IsNonDecreasingBy-from_sort_by_key (λ x. length (g.C.DocCursor.list x)) _ c.sort_unstable_by_key.ensures.sorted (λ a r q k. search rules)
