use Rattle.pef_top.proofs.FilesLeft.{built_and_asked}
use Rattle.pef_top.proofs.laws.built_files_answer.Goals as goal

pub returns : goal.returns
returns c = built_and_asked c.one_index.ensures c.words_and_bytes_undo_each_other.ensures.read
