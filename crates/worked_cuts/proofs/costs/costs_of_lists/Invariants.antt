use Rattle.worked_cuts.proofs.costs.costs_of_lists.Given as goal

abbrev pub ghosts-cost_of : goal.ghosts-cost_of
ghosts-cost_of g a = record { name = a.blank.name; parts = a.blank.parts }
