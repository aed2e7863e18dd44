use Rattle.pef_top.proofs.FilesLeft.{merged_come_back}
use Rattle.pef_top.proofs.laws.merged_files_come_back.Goals as goal

pub returns : goal.returns
returns c = merged_come_back c.one_index.ensures c.words_and_bytes_undo_each_other.ensures.read
