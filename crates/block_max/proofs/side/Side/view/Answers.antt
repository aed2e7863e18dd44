use Rattle.std.proofs.Common.{◌≡◌, sym, ap, subst, ◌∙◌, List, length, arith}
use Rattle.block_max.specs.Blocks.{BlockList, blocks_before}
use Rattle.block_max.specs.SideFaults.{HasFrame, IsFirstSideFault}
use Rattle.block_max.specs.SideWords.{block_freqs}
use Rattle.block_max.proofs.SideChecks.{block-broken, count-broken, fault-differs, length-broken}
use Rattle.block_max.proofs.Words.{all-before, words-are}
use Rattle.block_max.proofs.side.Side.view.Goals.{then-stated-total-via-then-stated-total, then-stated-total-via-else-stated-total+then-words-total}
use Rattle.block_max.proofs.side.Side.view.Goals.{After-blocks_before-total}
use Rattle.block_max.proofs.side.Side.view.Given as given
use Rattle.block_max.proofs.side.Side.view.Goals as goal

-- how many blocks the lists have
total-is : (g : given.Over) (c : After-blocks_before-total g) → c.blocks_before-total.result ≡ length (block_freqs (g.S.BlockSource.lists c.args.source.now))
total-is g c = let cs : List BlockList = g.S.BlockSource.lists c.args.source.now in c.blocks_before-total.ensures ∙ ap (blocks_before cs) c.terms.ensures ∙ all-before cs

pub returns-in-Err-clause-other_words : goal.returns-in-Err-clause-other_words
returns-in-Err-clause-other_words g c =
    fault-differs (g.S.BlockSource.lists c.args.source.now) c.args.words.now c.whole.result (subst (IsFirstSideFault (g.S.BlockSource.lists c.args.source.now) c.args.words.now) (sym c.whole.ensures) (c.in-Err.ensures.broken (g.S.BlockSource.lists c.args.source.now)))

pub returns-then-stated-total-clause-first : goal.returns-then-stated-total-clause-first
returns-then-stated-total-clause-first g c =
    let total = total-is g (goal.at.returns-then-stated-total-clause-first g c).After-blocks_before-total in
    let long = c.in-Ok.ensures.ok.long in
    subst (IsFirstSideFault (g.S.BlockSource.lists c.args.source.now) c.args.words.now) (sym c.whole-then-stated-total.ensures)
    (elim c.then-stated-total.branch [
      | then-stated-total-via-then-stated-total w ↦ count-broken (g.S.BlockSource.lists c.args.source.now) c.args.words.now c.in-Ok.stated c.in-Ok.ensures.ok (λ is. omega (arith, w.if-stated-total.true, is, total))
      | then-stated-total-via-else-stated-total+then-words-total w ↦ length-broken (g.S.BlockSource.lists c.args.source.now) c.args.words.now c.in-Ok.stated c.in-Ok.ensures.ok (λ is. omega (arith, w.if-words-total.true, is, total, long))
    ])

pub returns-then-stated-total-clause-other_words : goal.returns-then-stated-total-clause-other_words
returns-then-stated-total-clause-other_words g c =
    fault-differs (g.S.BlockSource.lists c.args.source.now) c.args.words.now c.whole-then-stated-total.result (returns-then-stated-total-clause-first g c)

pub first_wrong-requires : goal.first_wrong-requires
first_wrong-requires g c =
    let cs : List BlockList = g.S.BlockSource.lists c.args.source.now in
    let total = total-is g (goal.at.first_wrong-requires g c).After-blocks_before-total in
    omega (arith, c.if-words-total.false, total, c.in-Ok.ensures.ok.long)

pub returns-in-Some-clause-first : goal.returns-in-Some-clause-first
returns-in-Some-clause-first g c =
    let total = total-is g (goal.at.returns-in-Some-clause-first g c).After-blocks_before-total in
    block-broken (g.S.BlockSource.lists c.args.source.now) c.args.words.now c.in-Ok.stated c.in-Ok.ensures.ok c.in-Some.term c.in-Some.part (omega (arith, c.if-stated-total.false, total)) (omega (arith, c.if-words-total.false, total, c.in-Ok.ensures.ok.long)) c.in-Some.ensures.some

pub returns-in-Some-clause-other_words : goal.returns-in-Some-clause-other_words
returns-in-Some-clause-other_words g c =
    fault-differs (g.S.BlockSource.lists c.args.source.now) c.args.words.now _ (returns-in-Some-clause-first g c)

pub returns-in-None-clause-ok : goal.returns-in-None-clause-ok
returns-in-None-clause-ok g c =
    let total = total-is g (goal.at.returns-in-None-clause-ok g c).After-blocks_before-total in
    let count : c.in-Ok.stated ≡ length (block_freqs (g.S.BlockSource.lists c.args.source.now)) = omega (arith, c.if-stated-total.false, total) in
    words-are (g.S.BlockSource.lists c.args.source.now) c.args.words.now (subst (HasFrame c.args.words.now) count c.in-Ok.ensures.ok) (omega (arith, c.if-words-total.false, total, c.in-Ok.ensures.ok.long)) c.in-None.ensures.none
