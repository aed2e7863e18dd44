use Rattle.std.proofs.Common.{◌≡◌, ◌∙◌, sym, ap, subst, ℕ, ◌+◌, ◌*◌, ◌/◌, ◌<◌, ◌≤◌, List, length, get_or, arith}
use Rattle.block_max.specs.Blocks.{BlockList, blocks_before}
use Rattle.index_file.specs.IndexView.{IndexView}
use Rattle.index_blocks.specs.BlockLists.{blocks_of_index, lists_a_start}
use Rattle.index_blocks.proofs.Read.{starts-at, starts-count, lists-count, few-before, div-grows}
use Rattle.index_blocks.proofs.source.IndexBlocksBlockSource.blocks_before.Goals as goal
use Rattle.index_blocks.proofs.source.IndexBlocksBlockSource.blocks_before.Goals.{After-stands_for_a_collection, After-blocks_between}

within : (c : After-stands_for_a_collection) → c.args.t ≤ length c.args.self.now.index.now.collection.lists
within c =
    let i : IndexView = c.args.self.now.index.now in
    omega (arith, c.requires, lists-count i.collection.lists i.parts c.stands_for_a_collection.ensures.partitions)

-- the place in the table is one of its places
place-within : (c : After-stands_for_a_collection) → c.args.t / c.args.self.now.every ≤ length c.args.self.now.index.now.collection.lists / lists_a_start c.args.self.now.index.now
place-within c =
    let i : IndexView = c.args.self.now.index.now in
    let some : 0 < lists_a_start c.args.self.now.index.now = omega arith in
    subst (λ e. c.args.t / e ≤ length i.collection.lists / lists_a_start i) (sym c.args.self.now.spaced) (div-grows c.args.t (length i.collection.lists) (lists_a_start i) some (within c))

pub bounds-self-place : goal.bounds-self-place
bounds-self-place c =
    let i : IndexView = c.args.self.now.index.now in
    let count = ap length c.args.self.now.counted ∙ starts-count i in
    omega (arith, count, place-within (goal.at.bounds-self-place c).After-stands_for_a_collection)

pub blocks_between-requires-clause-within : goal.blocks_between-requires-clause-within
blocks_between-requires-clause-within c = within (goal.at.blocks_between-requires-clause-within c).After-stands_for_a_collection

-- what the table says and the blocks that follow are all that stand before
both : (c : After-blocks_between) → c.args.t / c.args.self.now.every ≤ length c.args.self.now.index.now.collection.lists / lists_a_start c.args.self.now.index.now
    → get_or c.args.self.now.starts.now (c.args.t / c.args.self.now.every) 0 + c.blocks_between.result ≡ blocks_before (blocks_of_index c.args.self.now.index.now) c.args.t
both c le =
    let i : IndexView = c.args.self.now.index.now in
    let cs : List BlockList = blocks_of_index i in
    let k : ℕ = c.args.t / c.args.self.now.every in
    let read = ap (λ (l : List ℕ). get_or l k 0) c.args.self.now.counted ∙ starts-at i k le in
    let from = ap (λ (e : ℕ). blocks_before cs (k * e)) c.args.self.now.spaced in
    omega (arith, read, from, c.blocks_between.ensures.counted)

pub overflow_add-result : goal.overflow_add-result
overflow_add-result c =
    let i : IndexView = c.args.self.now.index.now in
    omega (
      arith,
      both (goal.at.overflow_add-result c).After-blocks_between (place-within (goal.at.overflow_add-result c).After-stands_for_a_collection),
      few-before (blocks_of_index i) c.args.self.now.cut c.args.t c.requires,
      c.ranges.t.fits,
    )

pub returns : goal.returns
returns c = both c (place-within (goal.at.returns c).After-stands_for_a_collection)
