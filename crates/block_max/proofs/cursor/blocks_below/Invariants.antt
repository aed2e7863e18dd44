use Rattle.std.proofs.Common.{◌<◌, ◌≤◌, ◌-◌, length}
use Rattle.block_max.specs.Blocks.{nth_block, nth_list}
use Rattle.block_max.proofs.cursor.blocks_below.Given as goal

abbrev pub invariant-loop-low : goal.invariant-loop-low
invariant-loop-low g l = record {
  up : l.low ≤ l.high;
  within : l.high ≤ length (nth_list (g.S.BlockSource.lists l.source) l.t).ends;
  before : 0 < l.low → (nth_block (g.S.BlockSource.lists l.source) l.t (l.low - 1)).last < l.doc;
  reached : l.high < length (nth_list (g.S.BlockSource.lists l.source) l.t).ends → l.doc ≤ (nth_block (g.S.BlockSource.lists l.source) l.t l.high).last;
}

abbrev pub decreases-loop-low : goal.decreases-loop-low
decreases-loop-low g l = l.high - l.low
