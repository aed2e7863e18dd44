use Rattle.std.proofs.Common.{◌≡◌, ◌≤◌, ◌++◌, length, drop}
use Rattle.part_cost.specs.Partition.{IsPartitionFrom}
use Rattle.sequence_words.specs.SequenceWords.{payload_from}
use Rattle.sequence_words.proofs.write.write_parts.Given as goal

abbrev pub invariant-loop-end : goal.invariant-loop-end
invariant-loop-end l = record {
  parts : IsPartitionFrom l.from (length l.values) (drop l.end-index l.ends);
  bits : l.bits ++ payload_from l.values l.from (drop l.end-index l.ends) ≡ l.initial.bits ++ payload_from l.values 0 l.ends;
  grown : length l.initial.bits ≤ length l.bits;
}
