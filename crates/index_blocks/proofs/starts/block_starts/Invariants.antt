use Rattle.std.proofs.Common.{◌≡◌, ◌≤◌, ◌*◌, map}
use Rattle.std.specs.List.{range_with_len}
use Rattle.block_max.specs.Blocks.{blocks_before}
use Rattle.index_blocks.specs.BlockLists.{blocks_of_index, lists_a_start}
use Rattle.index_blocks.proofs.starts.block_starts.Given as goal

abbrev pub invariant-loop-place : goal.invariant-loop-place
invariant-loop-place l = record {
  made : l.starts.items ≡ map (λ k. blocks_before (blocks_of_index l.index) (k * lists_a_start l.index)) (range_with_len 0 l.place);
  counted : l.before ≡ blocks_before (blocks_of_index l.index) (l.place * lists_a_start l.index);
  few : l.before ≤ l.place * lists_a_start l.index * 4294967295;
}
