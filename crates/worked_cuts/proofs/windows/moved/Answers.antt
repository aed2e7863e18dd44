use Rattle.worked_cuts.proofs.windows.moved.Goals as goal

pub advance-requires-clause-same_cost : goal.advance-requires-clause-same_cost
advance-requires-clause-same_cost g c = c.in_ok-windows.ensures.keeps _ _
