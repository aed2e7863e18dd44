use Rattle.worked_sequences.proofs.gallops.gallops_to_the_part_that_reaches.Given as goal

abbrev pub ghosts-galloped : goal.ghosts-galloped
ghosts-galloped g a = record { name = a.blank.name; parts = a.blank.parts }
