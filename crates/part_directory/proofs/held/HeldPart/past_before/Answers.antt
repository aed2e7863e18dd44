use Rattle.std.proofs.Common.{◌≡◌, ◌+◌, ◌-◌, sym, ap, ◌∙◌, arith}
use Rattle.part_cost.specs.Span.{past}
use Rattle.part_directory.proofs.held.HeldPart.past_before.Goals as goal

pub overflow_add-result : goal.overflow_add-result
overflow_add-result c = omega (arith, c.requires.values.1.small)

pub overflow_sub-result : goal.overflow_sub-result
overflow_sub-result c = omega (arith, c.requires.values.1.start)

pub returns-then-place-self : goal.returns-then-place-self
returns-then-place-self c xs h up =
    let here : c.args.place ≡ c.args.self.now.part.from = omega (arith, c.if-place-self.true) in
    let is : c.args.self.now.part.last + 1 - c.args.self.now.part.u ≡ past xs c.args.self.now.part.from = omega (arith, h.start) in
    is ∙ ap (past xs) (sym here)
