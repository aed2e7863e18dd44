use Rattle.std.proofs.Common.{◌≡◌, ◌≤◌, ◌*◌}
use Rattle.block_max.specs.Blocks.{blocks_before}
use Rattle.block_max.proofs.source.BlockSource.blocks_before.Given as goal

abbrev pub invariant-loop-term : goal.invariant-loop-term
invariant-loop-term g l = record {
  count : l.count ≡ blocks_before (g.Self.BlockSource.lists l.self) l.term;
  few : l.count ≤ l.term * 4294967295;
}
