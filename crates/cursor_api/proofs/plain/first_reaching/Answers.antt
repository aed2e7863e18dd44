use Rattle.std.proofs.Common.{◌≡◌, ap, ◌∙◌, ℕ, ◌≤◌, not, leb, ltb, cond, length, inl, inr, Some, None, arith, rules, tests}
use Rattle.std.specs.List.{position_or_len}
use Rattle.std.specs.Option.{unwrap_or}
use Rattle.std.proofs.lemmas.Iterator.{YieldsList-from_slice}
use Rattle.std.proofs.lemmas.Iterator.Search.{position_from_yields_List}
use Rattle.std.proofs.lemmas.List.Sums.{prefix_len-le-length}
use Rattle.std.proofs.lemmas.Bool.{cases_lt, lt-ltb, le-ltb}
use Rattle.cursor_api.proofs.plain.first_reaching.Goals as goal

-- the place found, or the number of them all
found-or_all : (n k : ℕ) → k ≤ n → unwrap_or (cond (ltb k n) (Some k) None) n ≡ k
found-or_all n k le =
    elim (cases_lt k n) [
      | inl lt ↦ ap (λ b. unwrap_or (cond b (Some k) None) n) (lt-ltb _ _ lt)
      | inr ge ↦ ap (λ b. unwrap_or (cond b (Some k) None) n) (le-ltb _ _ ge) ∙ (let e : n ≡ k = omega arith in e)
    ]

pub returns-clause-first : goal.returns-clause-first
returns-clause-first c =
    let numbers = c.args.numbers.now in
    let f : ℕ = c.args.f in
    let found = position_from_yields_List (λ x. leb f x) _ _ c.position.result c.position.ensures.ran (YieldsList-from_slice numbers c.iter.ensures.rest) (λ x b q k. search (rules, tests)) in
    c.unwrap_or.ensures ∙ ap (λ o. unwrap_or o (length numbers)) found ∙ found-or_all (length numbers) (position_or_len (λ x. leb f x) numbers) (prefix_len-le-length _ numbers)

pub returns-clause-within : goal.returns-clause-within
returns-clause-within c =
    let numbers = c.args.numbers.now in
    let f : ℕ = c.args.f in
    let found = position_from_yields_List (λ x. leb f x) _ _ c.position.result c.position.ensures.ran (YieldsList-from_slice numbers c.iter.ensures.rest) (λ x b q k. search (rules, tests)) in
    omega (arith, c.unwrap_or.ensures ∙ ap (λ o. unwrap_or o (length numbers)) found ∙ found-or_all (length numbers) (position_or_len (λ x. leb f x) numbers) (prefix_len-le-length _ numbers), prefix_len-le-length (λ x. not (leb f x)) numbers)
