use Rattle.pef_top.proofs.FilesLeft.{migrated_and_asked}
use Rattle.pef_top.proofs.laws.migrated_files_answer.Goals as goal

pub returns : goal.returns
returns c = migrated_and_asked c.one_index.ensures c.words_and_bytes_undo_each_other.ensures.read
