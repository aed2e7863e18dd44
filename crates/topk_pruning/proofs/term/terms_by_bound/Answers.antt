use Rattle.std.proofs.Common.{◌≡◌, Bool, rules, arith}
use Rattle.std.specs.Cmp.{IsStrictWeakOrder, nat_cmp_total}
use Rattle.std.specs.Ordering.{is_lt, nat_cmp}
use Rattle.std.proofs.lemmas.Fn.{always_returns_same}
use Rattle.std.proofs.lemmas.List.Sorted.{ranks_by, IsStrictWeakOrder-flip, sorted_far}
use Rattle.std.proofs.lemmas.Map.Keys.{ge_from_not_lt}
use Rattle.topk_pruning.specs.declared.term.Term.{Term}
use Rattle.topk_pruning.proofs.term.terms_by_bound.Goals as goal

pub returns-clause-order : goal.returns-clause-order
returns-clause-order g c i j d before within =
    let above : Term → Term → Bool = λ a b. is_lt (nat_cmp b.bound a.bound) in
    let order : IsStrictWeakOrder above = IsStrictWeakOrder-flip _ (ranks_by nat_cmp_total (λ (t : Term). t.bound)) in
    let sorted = c.sort_unstable_by.ensures.sorted above order (always_returns_same _ (λ a r. is_lt r ≡ above a.0.now a.1.0.now) _ (λ a r q k. search rules)) in
    ge_from_not_lt _ _ (sorted_far above order _ sorted i j d (omega (arith, before)) within)
