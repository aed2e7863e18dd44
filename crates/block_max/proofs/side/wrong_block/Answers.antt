use Rattle.std.proofs.Common.{◌<◌, List, length, arith}
use Rattle.block_max.specs.Blocks.{BlockList, nth_list}
use Rattle.block_max.proofs.Words.{word-inside}
use Rattle.block_max.proofs.side.wrong_block.Goals as goal

pub word_of-requires : goal.word_of-requires
word_of-requires g c =
    let cs : List BlockList = g.S.BlockSource.lists c.args.source.now in
    let block : c.loop-block.block < length (nth_list cs c.args.term).ends = omega (arith, c.loop-block-test.true, c.blocks-block-end.ensures) in
    word-inside cs c.args.words.now c.args.term c.loop-block.block c.args.before c.requires.before c.requires.term block c.requires.room
