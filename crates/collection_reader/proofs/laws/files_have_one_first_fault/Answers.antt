use Rattle.collection_reader.proofs.FirstFaults.{one-first_fault}
use Rattle.collection_reader.proofs.laws.files_have_one_first_fault.Goals as goal

pub returns : goal.returns
returns c = one-first_fault
