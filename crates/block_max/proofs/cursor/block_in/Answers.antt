use Rattle.std.proofs.Common.{◌∙◌, ◌<◌, List, length, arith}
use Rattle.block_max.specs.Blocks.{BlockList, nth_list}
use Rattle.block_max.specs.SideWords.{words_seen}
use Rattle.block_max.proofs.Finds.{block-fits, told-found, told-none}
use Rattle.block_max.proofs.Words.{seen-at, seen-within}
use Rattle.block_max.proofs.cursor.block_in.Goals as goal

pub greatest-requires-clause-within : goal.greatest-requires-clause-within
greatest-requires-clause-within g c =
    let cs : List BlockList = g.S.BlockSource.lists c.args.source.now in
    seen-within cs (words_seen c.args.side) c.args.t c.blocks_below-block.result c.blocks_before-before.result c.requires.of_side c.blocks_before-before.ensures c.requires.within (omega (arith, c.if-block-blocks.true, c.blocks-blocks.ensures))

pub greatest-requires-clause-fits : goal.greatest-requires-clause-fits
greatest-requires-clause-fits g c =
    let cs : List BlockList = g.S.BlockSource.lists c.args.source.now in
    let block : c.blocks_below-block.result < length (nth_list cs c.args.t).ends = omega (arith, c.if-block-blocks.true, c.blocks-blocks.ensures) in
    let at = seen-at cs (words_seen c.args.side) c.args.t c.blocks_below-block.result c.blocks_before-before.result c.requires.of_side c.blocks_before-before.ensures c.requires.within block in
    let fits = block-fits cs c.args.t c.blocks_below-block.result (g.met.S.BlockSource.cut c.args.source.now) c.requires.within block in
    omega arith

pub returns-then-block-blocks : goal.returns-then-block-blocks
returns-then-block-blocks g c =
    let cs : List BlockList = g.S.BlockSource.lists c.args.source.now in
    let block : c.blocks_below-block.result < length (nth_list cs c.args.t).ends = omega (arith, c.if-block-blocks.true, c.blocks-blocks.ensures) in
    told-found cs c.args.t c.blocks_below-block.result c.args.doc c.last-last.result c.greatest.result block c.blocks_below-block.ensures.first c.last-last.ensures
    (c.greatest.ensures ∙ seen-at cs (words_seen c.args.side) c.args.t c.blocks_below-block.result c.blocks_before-before.result c.requires.of_side c.blocks_before-before.ensures c.requires.within block)

pub returns-else-block-blocks : goal.returns-else-block-blocks
returns-else-block-blocks g c =
    let cs : List BlockList = g.S.BlockSource.lists c.args.source.now in
    told-none cs c.args.t c.blocks_below-block.result c.args.doc (omega (arith, c.if-block-blocks.false, c.blocks-blocks.ensures)) c.blocks_below-block.ensures.first
