use Rattle.std.proofs.Common.{sym, subst, ℕ, List, rules}
use Rattle.remap.specs.NewIds.{AreNewIds}
use Rattle.worked_readings.proofs.Small.{small-order}
use Rattle.worked_readings.proofs.orders.order.Goals as goal

pub new-requires-clause-new_ids : goal.new-requires-clause-new_ids
new-requires-clause-new_ids c = subst (λ (l : List ℕ). AreNewIds l) (sym (c.in_ok-to_vec.ensures.items_if_clones_equal (λ x y e. search rules))) small-order
