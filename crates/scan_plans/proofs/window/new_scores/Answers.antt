use Rattle.std.proofs.Common.{◌≡◌, sym, subst, refl, ◌*◌, rules}
use Rattle.std.specs.List.{All}
use Rattle.std.proofs.lemmas.List.Elements.{All-replicate}
use Rattle.scan_plans.proofs.window.new_scores.Goals as goal

pub returns-clause-clear : goal.returns-clause-clear
returns-clause-clear c = subst (All (λ s. s ≡ 0)) (sym (c.in_ok-vec.ensures.items_if_clones_equal (λ y e. search rules))) (All-replicate (λ s. s ≡ 0) (64 * c.args.words) 0 refl)
