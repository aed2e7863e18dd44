use Rattle.part_directory.proofs.directory.Directory.part_reaching.Given as goal

abbrev pub ghosts-galloped : goal.ghosts-galloped
ghosts-galloped a = record { name = a.blank.name; parts = a.blank.parts }
