use Rattle.pefidx_c.proofs.merging.merged_words.Given as goal

abbrev pub ghosts-words_of_joined : goal.ghosts-words_of_joined
ghosts-words_of_joined a = record { name = a.blank.name; parts = a.blank.parts }
