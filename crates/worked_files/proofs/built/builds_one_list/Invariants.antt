use Rattle.worked_files.proofs.built.builds_one_list.Given as goal

abbrev pub ghosts-one_list : goal.ghosts-one_list
ghosts-one_list g a = record { name = a.blank.name; parts = a.blank.parts }
