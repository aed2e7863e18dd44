use Rattle.std.proofs.Common.{rules, ◌≡◌, ◌∙◌, ap, ◌-◌, ◌++◌, List, ℕ, [], ◌∷◌, take, length, arith, append_assoc}
use Rattle.block_max.specs.Blocks.{BlockList}
use Rattle.block_max.specs.SideWords.{block_freqs, side_opening, side_end}
use Rattle.block_max.proofs.Words.{rest-unspoken}
use Rattle.block_max.proofs.side.side_words.Goals as goal

pub returns : goal.returns
returns g c =
    let cs : List BlockList = g.S.BlockSource.lists c.args.source.now in
    let whole : block_freqs (take c.loop-term.term cs) ≡ block_freqs cs =
    rest-unspoken cs c.loop-term.term (λ t le. c.walked_terms-term-end.ensures.rest t (omega (arith, le, c.loop-term-test.false))) in
    let are : c.loop-term.words.items ≡ side_opening ∷ 1 ∷ block_freqs (g.S.BlockSource.lists c.args.source.now) = c.loop-term.invariant ∙ ap (λ (fs : List ℕ). side_opening ∷ 1 ∷ fs) whole in
    let count : c.len.result - 2 ≡ length (block_freqs (g.S.BlockSource.lists c.args.source.now)) = omega (arith, c.len.ensures, ap length are) in
    let pushed : c.push-2.new.self.items ≡ (c.loop-term.words.items ++ (c.len.result - 2) ∷ []) ++ side_end ∷ [] = search rules in
    pushed ∙ (λ j. (are j ++ count j ∷ []) ++ side_end ∷ []) ∙ append_assoc (side_opening ∷ 1 ∷ block_freqs cs) (length (block_freqs cs) ∷ []) (side_end ∷ [])
