use Rattle.index_file.proofs.WordBytes.{words-are_read, bytes-are_spelled}
use Rattle.index_file.proofs.laws.words_and_bytes_undo_each_other.Goals as goal

pub returns-clause-read : goal.returns-clause-read
returns-clause-read c = words-are_read

pub returns-clause-spelled : goal.returns-clause-spelled
returns-clause-spelled c = bytes-are_spelled
