use Rattle.std.proofs.Common.{◌≡◌, sym, ap, ◌∙◌, ℕ, ◌<◌, List, [], ◌∷◌, ◌++◌, map, take, length, get_or, arith, append_assoc}
use Rattle.std.proofs.lemmas.List.{take_more, take_all, length-map, get_or-map}
use Rattle.block_max.specs.Blocks.{Block, BlockList, blocks_of, nth_list}
use Rattle.block_max.proofs.Words.{blocks-length}
use Rattle.block_max.proofs.side.add_blocks.Goals as goal

pub loop-block-preserved : goal.loop-block-preserved
loop-block-preserved g c =
    let list : BlockList = nth_list (g.S.BlockSource.lists c.args.source.now) c.args.term in
    let gs : List ℕ = map (λ b. b.greatest) (blocks_of list) in
    let words : List ℕ = c.args.words.now.items in
    let q : ℕ = c.loop-block.block in
    let x : ℕ = c.from.result in
    let n = blocks-length list.list 0 list.ends in
    let l = length-map (blocks_of list) (λ (b : Block). b.greatest) in
    let within : q < length gs = omega (arith, c.loop-block-test.true, c.blocks-block-end.ensures) in
    let read = get_or-map (λ (b : Block). b.greatest) (blocks_of list) q (record { last = 0; greatest = 0 }) 0 (omega arith) in
    let value : x ≡ get_or gs q 0 = c.from.ensures ∙ c.greatest.ensures ∙ sym read in
    c.in_ok-push.ensures.items ∙ ap (λ (ws : List ℕ). ws ++ x ∷ []) c.loop-block.invariant ∙ append_assoc words (take q gs) (x ∷ [])
    ∙ ap (λ (ws : List ℕ). words ++ ws) (ap (λ (y : ℕ). take q gs ++ y ∷ []) value ∙ sym (take_more gs q 0 within))

pub returns : goal.returns
returns g c =
    let list : BlockList = nth_list (g.S.BlockSource.lists c.args.source.now) c.args.term in
    let gs : List ℕ = map (λ b. b.greatest) (blocks_of list) in
    let n = blocks-length list.list 0 list.ends in
    let l = length-map (blocks_of list) (λ (b : Block). b.greatest) in
    let whole : take c.loop-block.block gs ≡ gs = take_all c.loop-block.block gs (omega (arith, c.loop-block-test.false, c.blocks-block-end.ensures)) in
    c.loop-block.invariant ∙ ap (λ (ws : List ℕ). c.args.words.now.items ++ ws) whole
