use Rattle.calling.proofs.tests.tells_what_words_are.Given as goal

abbrev pub ghosts-one_list : goal.ghosts-one_list
ghosts-one_list g a = record { name = a.blank.name; parts = a.blank.parts }
