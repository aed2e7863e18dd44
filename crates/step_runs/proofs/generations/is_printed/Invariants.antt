use Rattle.step_runs.proofs.generations.is_printed.Given as goal

abbrev pub ghosts-generated : goal.ghosts-generated
ghosts-generated a = record { name = a.blank.name; parts = a.blank.parts }
