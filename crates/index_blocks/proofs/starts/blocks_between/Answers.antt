use Rattle.std.proofs.Common.{◌≡◌, ℕ, ◌<◌, ◌≤◌, List, length, arith}
use Rattle.block_max.specs.Blocks.{BlockList}
use Rattle.index_file.specs.IndexView.{IndexView}
use Rattle.index_blocks.specs.BlockLists.{blocks_of_index}
use Rattle.index_blocks.proofs.Read.{ends-at, lists-count, one-more, same-before, without-blocks}
use Rattle.index_blocks.proofs.starts.blocks_between.Goals as goal

pub loop-term-preserved : goal.loop-term-preserved
loop-term-preserved c =
    let i : IndexView = c.args.index.now in
    let cs : List BlockList = blocks_of_index i in
    let are = c.stands_for_a_collection.ensures.partitions in
    let t : ℕ = c.loop-term.term in
    let within : t < length i.collection.lists = omega (arith, c.loop-term-test.true, c.max-end.ensures, c.min.ensures, c.requires.within, c.loop-term.auto.term) in
    let count : length cs ≡ length i.collection.lists = lists-count i.collection.lists i.parts are in
    let own = ends-at i.collection.lists i.parts are t within in
    let more = one-more cs t (omega (arith, within, count)) in
    record {
      counted = omega (arith, c.from-count.ensures, c.blocks-in-loop-term.ensures, c.loop-term.invariant.counted, own, more);
      few = omega (arith, c.from-count.ensures, c.blocks-in-loop-term.type_inv, c.loop-term.invariant.few, c.loop-term.auto.term);
    }

pub returns-clause-counted : goal.returns-clause-counted
returns-clause-counted c =
    let i : IndexView = c.args.index.now in
    let cs : List BlockList = blocks_of_index i in
    let are = c.stands_for_a_collection.ensures.partitions in
    let end : c.loop-term.term ≡ c.max-end.result = omega (arith, c.loop-term-test.false, c.loop-term.auto.term-end (omega (arith, c.max-end.ensures))) in
    let le : c.loop-term.term ≤ c.args.to = omega (arith, end, c.max-end.ensures, c.min.ensures, c.requires.order) in
    omega (
      arith,
      c.loop-term.invariant.counted,
      same-before cs c.loop-term.term c.args.to le (omega (arith, c.requires.within, lists-count i.collection.lists i.parts are))
          (λ s from lt. without-blocks i.collection.lists i.parts are s (c.walked_terms.ensures.rest s (omega (arith, from, lt, end, c.max-end.ensures, c.min.ensures, c.from.ensures)))),
    )
