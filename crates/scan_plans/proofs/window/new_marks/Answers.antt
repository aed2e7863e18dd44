use Rattle.std.proofs.Common.{◌≡◌, sym, ◌∙◌, subst, refl, ℕ, List, length, ap, arith, rules}
use Rattle.std.specs.List.{All}
use Rattle.std.proofs.lemmas.List.{length-replicate}
use Rattle.std.proofs.lemmas.List.Elements.{All-replicate}
use Rattle.scan_plans.proofs.Marks.{unmarked}
use Rattle.scan_plans.proofs.window.new_marks.Goals as goal

pub returns-clause-clear : goal.returns-clause-clear
returns-clause-clear c = subst (All (λ s. s ≡ 0)) (sym (c.in_ok-vec.ensures.items_if_clones_equal (λ y e. search rules))) (All-replicate (λ s. s ≡ 0) c.args.words 0 refl)

pub returns-clause-none : goal.returns-clause-none
returns-clause-none c = λ k within.
    let items : List ℕ = c.in_ok-vec.field-0.items in
    let count : length items ≡ c.args.words = ap length (c.in_ok-vec.ensures.items_if_clones_equal (λ y e. search rules)) ∙ length-replicate c.args.words 0 in
    unmarked items (subst (All (λ s. s ≡ 0)) (sym (c.in_ok-vec.ensures.items_if_clones_equal (λ y e. search rules))) (All-replicate (λ s. s ≡ 0) c.args.words 0 refl)) k (omega arith)
