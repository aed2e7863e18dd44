use Rattle.collection_reader.proofs.FirstFaults.{spelled-no_fault}
use Rattle.collection_reader.proofs.laws.spelled_files_have_no_fault.Goals as goal

pub returns : goal.returns
returns c = spelled-no_fault
