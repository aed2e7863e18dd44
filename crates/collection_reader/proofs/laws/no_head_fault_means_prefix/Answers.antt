use Rattle.collection_reader.proofs.FirstFaults.{no_head_fault-means_prefix}
use Rattle.collection_reader.proofs.laws.no_head_fault_means_prefix.Goals as goal

pub returns : goal.returns
returns c = no_head_fault-means_prefix
