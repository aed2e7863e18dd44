use Rattle.std.proofs.Common.{◌≡◌, ◌≤◌, ◌*◌}
use Rattle.block_max.specs.Blocks.{blocks_before}
use Rattle.block_max.specs.SideFaults.{AllRight}
use Rattle.block_max.proofs.side.first_wrong.Given as goal

abbrev pub invariant-loop-term : goal.invariant-loop-term
invariant-loop-term g l = record {
  counted : l.before ≡ blocks_before (g.S.BlockSource.lists l.source) l.term;
  few : l.before ≤ l.term * 4294967295;
  right : AllRight (g.S.BlockSource.lists l.source) l.words l.term;
}
