use Rattle.step_runs.proofs.claims.migrates_empty_lists.Given as goal

abbrev pub ghosts-is_migrated : goal.ghosts-is_migrated
ghosts-is_migrated g a = record { name = a.blank.name; parts = a.blank.parts }
