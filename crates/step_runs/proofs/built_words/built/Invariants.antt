use Rattle.step_runs.proofs.built_words.built.Given as goal

abbrev pub ghosts-built_counted : goal.ghosts-built_counted
ghosts-built_counted a = record { name = a.blank.name; parts = a.blank.parts }
