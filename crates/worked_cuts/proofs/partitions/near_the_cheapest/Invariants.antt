use Rattle.worked_cuts.proofs.partitions.near_the_cheapest.Given as goal

abbrev pub ghosts-cuts : goal.ghosts-cuts
ghosts-cuts g a = record { name = a.blank.name; parts = a.blank.parts }
