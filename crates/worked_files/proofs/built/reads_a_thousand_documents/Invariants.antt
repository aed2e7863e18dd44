use Rattle.worked_files.proofs.built.reads_a_thousand_documents.Given as goal

abbrev pub ghosts-every_document : goal.ghosts-every_document
ghosts-every_document g a = record { name = a.blank.name; parts = a.blank.parts }
