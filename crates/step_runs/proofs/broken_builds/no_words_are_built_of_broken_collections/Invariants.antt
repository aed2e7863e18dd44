use Rattle.step_runs.proofs.broken_builds.no_words_are_built_of_broken_collections.Given as goal

abbrev pub ghosts-refused : goal.ghosts-refused
ghosts-refused g a = record { name = a.blank.name; parts = a.blank.parts }
