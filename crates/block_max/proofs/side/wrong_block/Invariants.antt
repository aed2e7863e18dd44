use Rattle.block_max.specs.SideFaults.{AreRight}
use Rattle.block_max.proofs.side.wrong_block.Given as goal

abbrev pub invariant-loop-block : goal.invariant-loop-block
invariant-loop-block g l = AreRight (g.S.BlockSource.lists l.source) l.words l.term l.block
