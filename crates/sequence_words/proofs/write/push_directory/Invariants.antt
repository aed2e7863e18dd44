use Rattle.std.proofs.Common.{◌≡◌, ◌+◌, ◌++◌, length, drop}
use Rattle.part_cost.specs.Formats.{numbers_of}
use Rattle.part_cost.specs.Span.{payload_of_part}
use Rattle.part_cost.specs.Partition.{IsPartitionFrom, cost_from, partition_cost}
use Rattle.sequence_words.specs.SequenceWords.{directory_from, Extends}
use Rattle.sequence_words.proofs.write.push_directory.Given as goal

abbrev pub invariant-loop-end : goal.invariant-loop-end
invariant-loop-end l = record {
  parts : IsPartitionFrom l.from (length l.values) (drop l.end-index l.ends);
  sums : l.offset + cost_from (payload_of_part l.values) l.from (drop l.end-index l.ends) ≡ partition_cost (payload_of_part l.values) l.ends;
  words : l.to.items ++ directory_from (numbers_of l.format) l.values l.from l.offset (drop l.end-index l.ends) ≡ l.initial.to.items ++ directory_from (numbers_of l.format) l.values 0 0 l.ends;
  grown : Extends l.initial.to.items l.to.items;
}
