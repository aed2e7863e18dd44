use Rattle.worked_cuts.proofs.partitions.all_numbers_are_one_part.Given as goal

abbrev pub ghosts-cuts : goal.ghosts-cuts
ghosts-cuts g a = record { name = a.blank.name; parts = a.blank.parts }
