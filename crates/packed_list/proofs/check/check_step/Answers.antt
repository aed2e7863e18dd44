use Rattle.std.proofs.Common.{◌≡◌, ℕ, ◌+◌, List, map, ◌∙◌, arith}
use Rattle.std.proofs.lemmas.List.{map-id}
use Rattle.std.proofs.lemmas.Option.{IfSome_then}
use Rattle.packed_list.proofs.check.check_step.Goals as goal

-- past a base of 0 the values stand as they are
past-none : (ys : List ℕ) → map (λ y. y + 0) ys ≡ ys
past-none ys =
    let same : (y : ℕ) → y + 0 ≡ y = λ y. omega arith in
    (λ i. map (λ y. same y i) ys) ∙ map-id ys

pub returns-then-not-is_empty-clause-some : goal.returns-then-not-is_empty-clause-some
returns-then-not-is_empty-clause-some c =
    IfSome_then c.check_part_into.result c.check_part_into.ensures.some (λ step h. (h.0, h.1, h.2, λ some. h.3 ∙ past-none h.0))
