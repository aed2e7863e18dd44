use Rattle.std.proofs.Common.{arith, ◌∙◌, ap, subst, ℕ, List, Contains, Decides}
use Rattle.std.proofs.lemmas.List.Elements.{contains_decides, Decides-contains}
use Rattle.memory_io.specs.declared.calls.Op.{Op}
use Rattle.io_traits.specs.Calls.{one_more}
use Rattle.memory_io.proofs.Ops.{numbered_eq, one_more-min}
use Rattle.memory_io.proofs.failing_depot.MemDepot.fails_next.Goals as goal

pub returns : goal.returns
returns c =
    let op = c.args.op in
    let number = c.saturating_add-number.result in
    let P : List (Op × ℕ) → Type 0 = λ fails. Decides c.contains.result (Contains fails (op, number)) in
    let Q : ℕ → Type 0 = λ n. Decides c.contains.result (Contains c.args.self.now.fails.items (op, n)) in
    let counted = one_more-min c.saturating_add-number.result c.calls.result c.saturating_add-number.ensures (omega arith) ∙ ap one_more c.calls.ensures in
    subst Q counted (subst P c.deref.ensures.value
    (Decides-contains c.deref.result.now (op, number) c.contains.result
    (contains_decides _ numbered_eq c.deref.result.now (op, number) c.contains.result c.contains.ensures.cases)))
