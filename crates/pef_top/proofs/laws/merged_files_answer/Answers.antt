use Rattle.pef_top.proofs.FilesLeft.{merged_and_asked}
use Rattle.pef_top.proofs.laws.merged_files_answer.Goals as goal

pub returns : goal.returns
returns c = merged_and_asked c.one_index.ensures c.words_and_bytes_undo_each_other.ensures.read c.joined_lists_follow.ensures.wide
