use Rattle.std.proofs.Common.{◌≡◌, sym, ap, ◌∙◌, ℕ, length, arith}
use Rattle.block_max.specs.Blocks.{nth_block, nth_list}
use Rattle.worked_plans.specs.TwoLists.{two_lists}
use Rattle.worked_plans.proofs.ListBlocks.{end-greatest, prefix-most}
use Rattle.worked_plans.proofs.blocks.TwoListsBlockSource.greatest.Goals as goal

pub returns-then-q-eq0 : goal.returns-then-q-eq0
returns-then-q-eq0 c =
    let n : ℕ = c.args.self.now.n in
    let first : c.args.t ≡ 0 = omega (arith, c.if-t-ne0.false) in
    let prefix : c.args.q ≡ 0 = omega (arith, c.if-q-eq0.true) in
    sym (ap (λ (i : ℕ). (nth_block (two_lists n) i c.args.q).greatest) first ∙ ap (λ (i : ℕ). (nth_block (two_lists n) 0 i).greatest) prefix ∙ prefix-most n c.args.self.now.some)

pub returns-else-q-eq0 : goal.returns-else-q-eq0
returns-else-q-eq0 c =
    let n : ℕ = c.args.self.now.n in
    let first : c.args.t ≡ 0 = omega (arith, c.if-t-ne0.false) in
    let count = ap (λ (i : ℕ). length (nth_list (two_lists n) i).ends) first in
    let end : c.args.q ≡ 1 = omega (arith, c.if-q-eq0.false, c.requires.block, count) in
    sym (ap (λ (i : ℕ). (nth_block (two_lists n) i c.args.q).greatest) first ∙ ap (λ (i : ℕ). (nth_block (two_lists n) 0 i).greatest) end ∙ end-greatest n c.args.self.now.some)
