use Rattle.calling.proofs.tests.builds_opens_walks_and_asks.Given as goal

abbrev pub ghosts-one_list : goal.ghosts-one_list
ghosts-one_list g a = record { name = a.blank.name; parts = a.blank.parts }
