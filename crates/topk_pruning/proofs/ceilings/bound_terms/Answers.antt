use Rattle.std.proofs.Common.{map}
use Rattle.topk_pruning.proofs.Alike.{near-moved}
use Rattle.topk_pruning.proofs.ceilings.bound_terms.Goals as goal

pub returns-clause-near : goal.returns-clause-near
returns-clause-near g c =
    near-moved (map g.C.DocCursor.list c.args.cursors.now) c.args.terms.now c.args.first c.bound_each-reach.result c.bound_each-reach.new.near c.sort_unstable_by.new.self c.sort_unstable_by.ensures.permutation c.bound_each-reach.ensures.near
