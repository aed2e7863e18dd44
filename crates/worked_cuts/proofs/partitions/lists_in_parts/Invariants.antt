use Rattle.worked_cuts.proofs.partitions.lists_in_parts.Given as goal

abbrev pub ghosts-list_cuts : goal.ghosts-list_cuts
ghosts-list_cuts g a = record { name = a.blank.name; parts = a.blank.parts }
