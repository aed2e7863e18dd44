use Rattle.worked_cuts.proofs.partitions.the_cheapest_of_all_and_of_the_allowed.Given as goal

abbrev pub ghosts-cheapest : goal.ghosts-cheapest
ghosts-cheapest g a = record { name = a.blank.name; parts = a.blank.parts }
