use Rattle.step_runs.proofs.texts.ends_well_from.Given as goal

abbrev pub ghosts-built : goal.ghosts-built
ghosts-built a = record { name = a.blank.name; parts = a.blank.parts }
