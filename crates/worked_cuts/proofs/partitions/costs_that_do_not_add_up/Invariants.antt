use Rattle.worked_cuts.proofs.partitions.costs_that_do_not_add_up.Given as goal

abbrev pub ghosts-level_cuts : goal.ghosts-level_cuts
ghosts-level_cuts g a = record { name = a.blank.name; parts = a.blank.parts }
