use Rattle.step_runs.proofs.plans.plans_pass_over_documents.Given as goal

abbrev pub ghosts-long_list_and_short_list : goal.ghosts-long_list_and_short_list
ghosts-long_list_and_short_list g a = record { name = a.blank.name; parts = a.blank.parts }
