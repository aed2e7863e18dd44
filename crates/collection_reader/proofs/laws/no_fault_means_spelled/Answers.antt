use Rattle.collection_reader.proofs.FirstFaults.{no_fault-means_spelled}
use Rattle.collection_reader.proofs.laws.no_fault_means_spelled.Goals as goal

pub returns : goal.returns
returns c = no_fault-means_spelled
