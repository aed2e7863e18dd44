use Rattle.std.proofs.Common.{◌≡◌, ◌+◌, ℕ, List, length, ap, ◌∙◌, sym, subst, arith}
use Rattle.std.specs.Prelude.{slice_range}
use Rattle.two_level.specs.LongSteps.{IsFirstStep}
use Rattle.two_level.proofs.LongSteps.{first-of_block}
use Rattle.two_level.proofs.long_steps.first_in_block.Goals as goal

pub returns-clause-first : goal.returns-clause-first
returns-clause-first c xs h is =
    let given : List ℕ = c.read_block-last.new.block in
    let room : length given ≡ length c.args.block.now = c.read_block-last.ensures.room in
    subst (λ n. IsFirstStep xs c.args.next.place (c.args.next.place + n) c.args.least (c.args.next.place + c.first_long.result)) room
    (first-of_block xs given c.args.next.place c.args.next.past c.args.least c.first_long.result (omega (arith, c.requires.within, h.within, room))
    (c.read_block-last.ensures.values xs h ∙ ap (λ n. slice_range xs c.args.next.place (c.args.next.place + n)) (sym room)) is c.first_long.ensures.first)
