use Rattle.std.proofs.Common.{◌≡◌, ◌+◌, ◌-◌, ◌≤◌, ◌*◌}
use Rattle.block_max.specs.Blocks.{blocks_before}
use Rattle.index_blocks.specs.BlockLists.{blocks_of_index}
use Rattle.index_blocks.proofs.starts.blocks_between.Given as goal

abbrev pub invariant-loop-term : goal.invariant-loop-term
invariant-loop-term l = record {
  counted : blocks_before (blocks_of_index l.index) l.from + l.count ≡ blocks_before (blocks_of_index l.index) l.term;
  few : l.count ≤ (l.term - l.from) * 4294967295;
}
